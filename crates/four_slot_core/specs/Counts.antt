-- How far each side of a cell has come: its steps, slots and answers, by the stage of the operation
-- under way (this project's own).
use Rattle.std.specs.Prelude.{◌≡◌, ℕ, ◌+◌, ◌*◌, ◌<◌, List, length, slice_get, Some}
use Rattle.four_slot_core.specs.declared.state.Stage.{Stage}
use Rattle.four_slot_core.specs.declared.state.Stage.TheVariants.{W1, W2, W3, W4, W5}
use Rattle.four_slot_core.specs.declared.state.ReaderStage.{ReaderStage}
use Rattle.four_slot_core.specs.declared.state.ReaderStage.TheVariants.{R1, R2, R3, R4, R5}
use Rattle.four_slot_core.specs.Events.{slot_number}
use Rattle.four_slot_core.specs.Invariant.{IsUnderWay, HasIndex}
use Rattle.four_slot_core.specs.Traces.{Trace}

-- the steps that a write under way has left
abbrev pub left : Stage → ℕ
left W1 = 4
left W2 = 3
left W3 = 2
left W4 = 1
left W5 = 0

-- the steps that a read under way has made
abbrev pub made : ReaderStage → ℕ
made R1 = 1
made R2 = 2
made R3 = 3
made R4 = 4
made R5 = 0

-- 1 while a read under way has its slot
abbrev pub has_chosen : ReaderStage → ℕ
has_chosen R3 = 1
has_chosen R4 = 1
has_chosen _ = 0

-- the last slot of the writer's list is that of the write under way
abbrev pub HasWriteSlot : Stage → List ℕ → ℕ → Type 0
HasWriteSlot w slots slot = IsUnderWay w → (k : ℕ) → k + 1 ≡ length slots → slice_get slots k ≡ Some slot

-- the slot after those of the answers is that of the read under way
abbrev pub HasReadSlot : {R : Type 0} → ReaderStage → List ℕ → List R → ℕ → Type 0
HasReadSlot r slots answers slot = HasIndex r → slice_get slots (length answers) ≡ Some slot

-- every position of the list is below this one
abbrev pub IsBelow : List ℕ → ℕ → Type 0
IsBelow positions next = (i p : ℕ) → slice_get positions i ≡ Some p → p < next

-- the steps, slots and answers so far, all at positions below `next`
pub record IsCounted {R : Type 0} (t : Trace R) (next : ℕ) : Type 0 where
  pub writer : length t.writer + left t.cell.writer ≡ length t.write_slots * 5
  pub reader : length t.reader ≡ length t.answers * 5 + made t.cell.reader
  pub read_slots : length t.read_slots ≡ length t.answers + has_chosen t.cell.reader
  pub writer_below : IsBelow t.writer next
  pub reader_below : IsBelow t.reader next
  pub write_slot : HasWriteSlot t.cell.writer t.write_slots (slot_number t.cell.write)
  pub read_slot : HasReadSlot t.cell.reader t.read_slots t.answers (slot_number t.cell.read)
