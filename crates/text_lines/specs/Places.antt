-- The lines of operations (this project's own).
use Rattle.std.specs.Prelude.{ℕ, ◌+◌}

-- the line of the operation at a place: the header's is 1
abbrev pub line_at : ℕ → ℕ
line_at place = place + 2
