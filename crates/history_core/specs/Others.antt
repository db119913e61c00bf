-- The other processes of a process, by number (this project's own).
use Rattle.std.specs.Prelude.{ℕ, ◌+◌, nat_lt, if◌then◌else◌}

-- process i's other process number k, counted from 0 and rising
abbrev pub other : ℕ → ℕ → ℕ
other i k = if nat_lt k i then k else k + 1
