-- Records and operations that got numbers. Only private functions cite this, which is this project's own.
use Rattle.std.specs.Prelude.{◌≡◌, ℕ, List, slice_get, Option, Some}
use Rattle.history_core.specs.declared.history.Op.{Op}
use Rattle.kept_lines.specs.Numbered.{AreNumbered}
use Rattle.kept_lines.specs.declared.numbers.RecordNumbers.{RecordNumbers}
use Rattle.lines_log.specs.Logs.{IsItem, IsNumberedOp}

-- the records that were met stay where they stand
abbrev pub Grow : List (List ℕ) → List (List ℕ) → Type 0
Grow records after = (n : ℕ) (text : List ℕ) → slice_get records n ≡ Some text → slice_get after n ≡ Some text

-- a record got its number, where there is one
pub record IsRecordNow (records : List (List ℕ)) (said : Option (List ℕ)) (numbers : RecordNumbers)
    (item : Option ℕ) : Type 0 where
  pub after : List (List ℕ)
  pub grows : Grow records after
  pub numbered : AreNumbered after numbers
  pub is : IsItem after said item

-- an operation got the number of its record
pub record IsNumberedNow (records : List (List ℕ)) (said : Op (List ℕ)) (numbers : RecordNumbers)
    (op : Op ℕ) : Type 0 where
  pub after : List (List ℕ)
  pub grows : Grow records after
  pub numbered : AreNumbered after numbers
  pub is : IsNumberedOp after said op
