-- Consequences of a write through C, by its status (this project's own).
use Rattle.std.specs.Prelude.{◌≡◌, ◌≢◌, ℕ, ◌+◌, ◌≤◌, ◌^◌, [], ◌∷◌, ◌++◌}
use Rattle.cell_contract.specs.Intervals.{IsNextCall}
use Rattle.cell_four_slot.specs.Words.{cell_name, get_notes, is_get_of, is_put_of, opening_of}
use Rattle.cell_four_slot.specs.Words.{pair_shown, put_notes, put_times}
use Rattle.cell_four_slot.specs.Words.{writer_accesses}
use Rattle.cell_four_slot.specs.Words.{written_by}
use Rattle.cell_four_slot.specs.declared.cell.FourSlotCell.{FourSlotCell}
use Rattle.cell_four_slot.specs.declared.cell.FourSlotGet.{FourSlotGet}
use Rattle.cell_four_slot.specs.declared.cell.FourSlotPut.{FourSlotPut}
use Rattle.c_registers.specs.FourSlotCalls.{HasWritten}
use Rattle.c_registers.specs.Handles.{Holding, IsWrite}
use Rattle.c_registers.specs.Numbers.{numbered}
use Rattle.c_registers.specs.declared.four_slot.FourSlotWriter.{FourSlotWriter}

module _ (D W : Type 0) where
  -- with status 0 the handle had a side of the cell and has it after the write; with any other it is what it was
  abbrev pub StatusesShow : Type 0
  StatusesShow = (code : ℕ) (writes : FourSlotWriter W → D) (last : FourSlotWriter W → ℕ) (h k : Holding D) (item : W) →
      (IsWrite code writes last HasWritten h k item 0 →
      (p : FourSlotWriter W) × (q : FourSlotWriter W) × (h.live ≡ code)
      × (h.side ≡ writes p) × (k.live ≡ code) × (k.side ≡ writes q) × HasWritten p q item)
      × (IsWrite code writes last HasWritten h k item 3 → (h.live ≡ 0) × (k ≡ h))
      × (IsWrite code writes last HasWritten h k item 4 → (p : FourSlotWriter W) × (h.live ≡ code) × (h.side ≡ writes p)
      × (2 ^ 64 ≤ last p + 1) × (k ≡ h))
      × (IsWrite code writes last HasWritten h k item 5 → (h.live ≢ 0) × (h.live ≢ code) × (k ≡ h))
      × (IsWrite code writes last HasWritten h k item 12 → (h.live ≡ 255) × (k ≡ h))

module _ (W : Type 0) where
  -- the cell is the same, and has the record under the next number, by two accesses or three
  abbrev pub WrittenShows : Type 0
  WrittenShows = (p q : FourSlotWriter W) (w : W) → HasWritten p q w → (q.cell ≡ p.cell) × (q.number ≡ p.number + 1)
      × (written_by q.put ≡ written_by p.put ++ numbered (p.number + 1) w ∷ [])
      × (writer_accesses q.put ≤ writer_accesses p.put + 3)
      × (pair_shown q.put ≡ pair_shown p.put → writer_accesses q.put ≡ writer_accesses p.put + 2)
      × (pair_shown q.put ≢ pair_shown p.put → writer_accesses q.put ≡ writer_accesses p.put + 3)
      × IsNextCall (put_times p.put) (put_times q.put)

module _ (T : Type 0) where
  -- a pass is of a cell if both are of one table, and opened with one record
  abbrev pub PassesOfCellsShow : Type 0
  PassesOfCellsShow = (c : FourSlotCell T) (p : FourSlotPut T) (g : FourSlotGet T) →
      (is_put_of c p → (p.seat.inner.table_id ≡ (cell_name c).table) × ((put_notes p).opening.value ≡ opening_of c))
      × (is_get_of c g → (g.seat.inner.table_id ≡ (cell_name c).table) × ((get_notes g).opening.value ≡ opening_of c))
