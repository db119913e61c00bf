-- Small logs worked by hand, of a cell that holds a number.
use Rattle.std.specs.Prelude.{ℕ, false, nat_eq, cond, List, [], ◌∷◌, Option, None, Some}
use Rattle.object_core.specs.declared.operation.Operation.{Operation}

pub data Touch : Type 0 where
  Puts : (value : ℕ) → Touch
  Gets : (value : ℕ) → Touch

-- what the cell holds then
abbrev pub cell_after : ℕ → Touch → Option ℕ
cell_after held (Puts value) = Some value
cell_after held (Gets value) = cond (nat_eq held value) (Some held) None

-- an operation that ended and took effect
abbrev pub ended : ℕ → ℕ → Touch → Operation Touch
ended starts end what = record { starts = starts; ends = Some end; maybe = false; what = what }

-- a put of 1 from 1 to 4, and a get of 1 from 2 to 3
abbrev pub get_beside_put : List (Operation Touch)
get_beside_put = ended 1 4 (Puts 1) ∷ ended 2 3 (Gets 1) ∷ []

-- a put of 1 from 1 to 2, and then a get of 0 from 3 to 4
abbrev pub stale_get : List (Operation Touch)
stale_get = ended 1 2 (Puts 1) ∷ ended 3 4 (Gets 0) ∷ []

-- a put of 1 that never ended, a get of 0 from 2 to 3, and then a get of 1 from 4 to 5
abbrev pub unfinished_put : List (Operation Touch)
unfinished_put = record { starts = 1; ends = None; maybe = false; what = Puts 1 } ∷ ended 2 3 (Gets 0)
    ∷ ended 4 5 (Gets 1) ∷ []
