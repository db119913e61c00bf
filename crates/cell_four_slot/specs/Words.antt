-- The words of the contract, of the passes of a four-slot cell (this project's own).
use Rattle.std.specs.Prelude.{◌≡◌, ◌≢◌, ◌≤◌, ℕ, ◌+◌, List, [], ◌∷◌, ◌++◌}
use Rattle.four_slot_core.specs.Events.{slot_number, bit_number}
use Rattle.four_slot_core.specs.declared.event.WriteEvent.{WriteEvent}
use Rattle.four_slot_core.specs.declared.event.ReadEvent.{ReadEvent}
use Rattle.four_slot_core.specs.declared.event.ReadEvent.TheVariants.{R1, R2, R3, R4, R5}
use Rattle.cell_contract.specs.Running.{Name, IsName, IsAnswer, last_or, snap}
use Rattle.cell_contract.specs.CallsSoFar.{AreCallsSoFar}
use Rattle.cell_contract.specs.Intervals.{AreHeeded, IsNextCall, IsNextAnswer}
use Rattle.cell_contract.specs.declared.times.Times.{Times}
use Rattle.cell_contract.specs.declared.times.Known.{Known}
use Rattle.cell_contract.specs.Sights.{writer_or, reader_or, receipt_or}
use Rattle.cell_four_slot.specs.Steps.{first_writer, first_reader, word_said}
use Rattle.cell_contract.specs.Intervals.{dated}
use Rattle.cell_four_slot.specs.declared.notes.WriterNotes.{WriterNotes}
use Rattle.cell_four_slot.specs.declared.notes.ReaderNotes.{ReaderNotes}
use Rattle.cell_four_slot.specs.declared.cell.FourSlotCell.{FourSlotCell}
use Rattle.cell_four_slot.specs.declared.cell.FourSlotPut.{FourSlotPut}
use Rattle.cell_four_slot.specs.declared.cell.FourSlotGet.{FourSlotGet}
use Rattle.cell_four_slot.specs.declared.cell.FourSlotReceipt.{FourSlotReceipt}

module _ {T : Type 0} where
  abbrev pub cell_name : FourSlotCell T → Name T
  cell_name c = record { table = c.table.inner.shared.table_id; opening = c.table.inner.shared.key }

  abbrev pub opening_of : FourSlotCell T → T
  opening_of c = c.table.inner.shared.key

  abbrev pub put_notes : FourSlotPut T → WriterNotes T
  put_notes p = writer_or (first_writer p.spare.value) p.seat.inner.me.0

  abbrev pub get_notes : FourSlotGet T → ReaderNotes T
  get_notes g = reader_or (first_reader g.spare.value) g.seat.inner.me.0

  abbrev pub is_put_of : FourSlotCell T → FourSlotPut T → Type 0
  is_put_of c p = IsName (record { table = p.seat.inner.table_id; opening = (put_notes p).opening.value }) (cell_name c)

  abbrev pub is_get_of : FourSlotCell T → FourSlotGet T → Type 0
  is_get_of c g = IsName (record { table = g.seat.inner.table_id; opening = (get_notes g).opening.value }) (cell_name c)

  abbrev pub is_receipt_of : FourSlotCell T → FourSlotReceipt T → Type 0
  is_receipt_of c t = t.seat.inner.table_id ≡ c.table.inner.shared.table_id

  abbrev pub written_by : FourSlotPut T → List T
  written_by p = (put_notes p).written

  abbrev pub answers_of : FourSlotGet T → List T
  answers_of g = (get_notes g).answers

  abbrev pub told_to : FourSlotGet T → List T
  told_to g = (get_notes g).told

  -- the record that a receipt names
  abbrev pub named_by : FourSlotReceipt T → T
  named_by t = (receipt_or (dated t.spare.value) t.seat.inner.me.0).item

  -- a time at which that record was written, and all the writes up to then
  abbrev pub time_of : FourSlotReceipt T → ℕ
  time_of t = (receipt_or (dated t.spare.value) t.seat.inner.me.0).time

  abbrev pub writes_of : FourSlotReceipt T → Known T
  writes_of t = (receipt_or (dated t.spare.value) t.seat.inner.me.0).writes

  -- the calls made with a pass, in the table's time; the numbers of the answers; the writes of which a reader knows;
  -- and those of which receipts told it
  abbrev pub put_times : FourSlotPut T → Times
  put_times p = (put_notes p).times

  abbrev pub get_times : FourSlotGet T → Times
  get_times g = (get_notes g).times

  abbrev pub numbers_of : FourSlotGet T → List ℕ
  numbers_of g = (get_notes g).numbers

  abbrev pub known_to : FourSlotGet T → Known T
  known_to g = (get_notes g).known

  abbrev pub heard_by : FourSlotGet T → List (Known T)
  heard_by g = (get_notes g).heard

  -- the events made with a pass, and the count of its control accesses
  abbrev pub write_events : FourSlotPut T → List (WriteEvent T)
  write_events p = (put_notes p).events

  abbrev pub read_events : FourSlotGet T → List (ReadEvent T)
  read_events g = (get_notes g).events

  abbrev pub writer_accesses : FourSlotPut T → ℕ
  writer_accesses p = (put_notes p).accesses

  abbrev pub reader_accesses : FourSlotGet T → ℕ
  reader_accesses g = (get_notes g).accesses

  -- the pair that a reader's pass has stored in `reading`, 2 where it has stored none; and the one that a
  -- writer's has stored in `latest`
  abbrev pub pair_said : FourSlotGet T → ℕ
  pair_said g = word_said (get_notes g).chosen

  abbrev pub pair_shown : FourSlotPut T → ℕ
  pair_shown p = bit_number (put_notes p).latest

  -- the slot that the last R3 took, and the slots that the pass holds, each with its record
  abbrev pub chosen_slot : FourSlotGet T → ℕ
  chosen_slot g = slot_number (get_notes g).slot

  abbrev pub held_by : FourSlotGet T → List (ℕ × T)
  held_by g = g.seat.inner.me.1

  -- the record in the slot that the pass holds
  abbrev pub at_hand_of : FourSlotGet T → T
  at_hand_of g = (get_notes g).at_hand.value

  -- what the control accesses of a read make of its pass: the slot is taken, and what it has is the answer. There are
  -- two where `reading` has the pair already, as R2 then stores nothing, and else three
  pub record HasChosen (fits : T → Type 0) (rises : T → T → Type 0) (c : FourSlotCell T) (g h : FourSlotGet T)
      (slot : ℕ) : Type 0 where
    pub own : is_get_of c h
    pub answers : answers_of h ≡ answers_of g ++ at_hand_of h ∷ []
    pub told : told_to h ≡ told_to g
    pub running : IsAnswer fits rises (opening_of c) (answers_of g) (told_to g) (at_hand_of h)
    pub accesses : reader_accesses h ≤ reader_accesses g + 3
    pub quiet : pair_said h ≡ pair_said g → reader_accesses h ≡ reader_accesses g + 2
    pub moved : pair_said h ≢ pair_said g → reader_accesses h ≡ reader_accesses g + 3
    pub events : read_events h ≡ read_events g ++ R1 ∷ R2 ∷ R3 ∷ R4 ∷ R5 (snap (at_hand_of h)) ∷ []
    pub held : held_by h ≡ (slot, at_hand_of h) ∷ []
    pub chosen : chosen_slot h ≡ slot
    pub timed : IsNextCall (get_times g) (get_times h)
    pub numbered : IsNextAnswer (opening_of c) (known_to g) (known_to h) (numbers_of g)
        (numbers_of h) (answers_of h) (get_times h) (at_hand_of h)
    pub heeds : (heard_by h ≡ heard_by g) × AreHeeded (heard_by h) (known_to h) (last_or 0 (numbers_of h))
    pub so_far : AreCallsSoFar fits rises (opening_of c) (heard_by h) (answers_of h) (get_times h)
