-- The range that documents of several kinds have (this project's own).
use Rattle.std.specs.Prelude.{ℕ, Bool, nat_le}

-- how many operations a document may have
abbrev pub count_in_range : ℕ → Bool
count_in_range operations = nat_le operations 10000
