-- A small history worked by hand.
use Rattle.std.specs.Prelude.{ℕ, List, [], ◌∷◌, None, Some}
use Rattle.history_core.specs.declared.history.Kind.TheVariants.{Write, Read, Refused}
use Rattle.history_core.specs.declared.history.Op.{Op}

-- a write of 1 from 1 to 2, a refused write from 3 to 4 that saw 1, and a read that began at 1 and never ended
abbrev pub refused_behind : List (Op ℕ)
refused_behind = record { who = 0; kind = Write; starts = 1; ends = Some 2; item = Some 1 }
    ∷ record { who = 0; kind = Refused; starts = 3; ends = Some 4; item = Some 1 }
    ∷ record { who = 1; kind = Read; starts = 1; ends = None; item = None } ∷ []
