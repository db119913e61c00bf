-- What the example's motor counts (this project's own).
use Rattle.std.specs.Prelude.{◌≡◌, ℕ, ◌+◌, min}
use Rattle.example_control.specs.declared.motors.Counted.{Counted}

-- one command more was counted; the count stands still at its end
abbrev pub WasCounted : Counted → ℕ → Counted → Type 0
WasCounted old command new = new.commands ≡ min (old.commands + 1) 18446744073709551615
