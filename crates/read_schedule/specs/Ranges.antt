-- The range of a schedule's steps (this project's own).
use Rattle.std.specs.Prelude.{ℕ, Bool, nat_le}

-- how many steps a schedule may have
abbrev pub steps_in_range : ℕ → Bool
steps_in_range steps = nat_le steps 100000
