-- The law of the items that are measured (this project's own).
use Rattle.std.specs.Prelude.{Bool, true}

-- any item may stand
abbrev pub no_law : {V : Type 0} → V → Bool
no_law item = true
