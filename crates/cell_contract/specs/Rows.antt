-- A row and a column: a call for each other process of one, one after the other (this project's own).
use Rattle.std.specs.Prelude.{◌≡◌, ◌⊎◌, ℕ, ◌+◌, List}
use Rattle.history_core.specs.Others.{other}
use Rattle.cell_contract.specs.Running.{IsAnswer, last_or}
use Rattle.cell_contract.specs.Accesses.{IsAccess, IsReadAccess, IsWriteAccess, KeepsEach, KeepsOthers}
use Rattle.cell_contract.specs.Accesses.{ReadAccesses, WriteAccesses}
use Rattle.cell_contract.specs.declared.said.Said.{Said}
use Rattle.cell_contract.specs.declared.said.Found.{Found}

-- *A write to one process*, by the words of its family: one access and one record more, and
-- each other register as before. No tag is said or found
pub record IsWriteTo {S T : Type 0} (is_seat : S → Type 0) (who clock : S → ℕ) (times : S → List ℕ)
    (writes : S → ℕ → WriteAccesses T) (reads : S → ℕ → ReadAccesses T) (said : S → List Said) (found : S → List Found)
    (width : ℕ) (item : T) (to : ℕ) (old new : S) : Type 0 where
  pub own : is_seat new × (who new ≡ who old)
  pub access : IsAccess width (clock old) (clock new) (times old) (times new) (writes old to).times
      (writes new to).times
  pub written : IsWriteAccess (writes old to) (writes new to) item
  pub others : KeepsOthers to (writes old) (writes new) × KeepsEach (reads old) (reads new)
  pub tags : (said new ≡ said old) × (found new ≡ found old)

-- *Seen where it is new*: the record was seen, or it is the last answer before, and then it may be left out
abbrev pub SeesNew : {L T : Type 0} → (L → T → L → Type 0) → T → L → T → L → Type 0
SeesNew sees last old item new = (sees old item new) ⊎ ((new ≡ old) × (item ≡ last))

-- *A read of one process*, by the words of its family: one access and one answer more, and each other register as
-- before. No tag is said or found. What sees the answer goes along with the seat, and is told the last answer before,
-- or the opening
pub record IsReadFrom {S L T : Type 0} (is_seat : S → Type 0) (who clock : S → ℕ) (times : S → List ℕ)
    (writes : S → ℕ → WriteAccesses T) (reads : S → ℕ → ReadAccesses T) (said : S → List Said) (found : S → List Found)
    (width : ℕ) (opening : T) (fits : T → Type 0) (rises : T → T → Type 0) (sees : T → L → T → L → Type 0) (from : ℕ)
    (old new : S × L) : Type 0 where
  pub own : is_seat new.0 × (who new.0 ≡ who old.0)
  pub access : IsAccess width (clock old.0) (clock new.0) (times old.0) (times new.0) (reads old.0 from).times
      (reads new.0 from).times
  pub answer : T
  pub read : IsReadAccess opening (reads old.0 from) (reads new.0 from) answer
  pub may : IsAnswer fits rises opening (reads old.0 from).answers (reads old.0 from).told answer
  pub saw : sees (last_or opening (reads old.0 from).answers) old.1 answer new.1
  pub others : KeepsOthers from (reads old.0) (reads new.0) × KeepsEach (writes old.0) (writes new.0)
  pub tags : (said new.0 ≡ said old.0) × (found new.0 ≡ found old.0)

-- *In turn*: such a call for each of so many of the other processes, rising
pub data OneByOne {S : Type 0} (Call : ℕ → S → S → Type 0) (process : ℕ) (old : S) : ℕ → S → Type 0 where
  no_call : OneByOne Call process old 0 old
  one_more : (count : ℕ) (now new : S) → OneByOne Call process old count now → Call (other process count) now new →
      OneByOne Call process old (count + 1) new
