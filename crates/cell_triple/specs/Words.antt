-- The words of the contract, of the passes of a triple buffer (this project's own).
use Rattle.std.specs.Prelude.{◌≡◌, ℕ, ◌+◌, ◌<◌, ◌≤◌, List, [], ◌∷◌, ◌++◌}
use Rattle.cell_contract.specs.Running.{Name, IsName, IsAnswer, last_or}
use Rattle.cell_contract.specs.CallsSoFar.{AreCallsSoFar}
use Rattle.cell_contract.specs.Intervals.{AreHeeded, IsNextCall, IsNextAnswer}
use Rattle.cell_contract.specs.declared.times.Times.{Times}
use Rattle.cell_contract.specs.declared.times.Known.{Known}
use Rattle.cell_contract.specs.Sights.{writer_or, reader_or, receipt_or}
use Rattle.cell_triple.specs.Steps.{first_writer, first_reader}
use Rattle.cell_contract.specs.Intervals.{dated}
use Rattle.cell_triple.specs.declared.notes.WriterNotes.{WriterNotes}
use Rattle.cell_triple.specs.declared.notes.ReaderNotes.{ReaderNotes}
use Rattle.cell_triple.specs.declared.cell.TripleCell.{TripleCell}
use Rattle.cell_triple.specs.declared.cell.TriplePut.{TriplePut}
use Rattle.cell_triple.specs.declared.cell.TripleGet.{TripleGet}
use Rattle.cell_triple.specs.declared.cell.TripleReceipt.{TripleReceipt}

module _ {T : Type 0} where
  abbrev pub cell_name : TripleCell T → Name T
  cell_name c = record { table = c.table.inner.shared.table_id; opening = c.table.inner.shared.key }

  abbrev pub opening_of : TripleCell T → T
  opening_of c = c.table.inner.shared.key

  abbrev pub put_notes : TriplePut T → WriterNotes T
  put_notes p = writer_or (first_writer p.spare.value) p.seat.inner.me.0

  abbrev pub get_notes : TripleGet T → ReaderNotes T
  get_notes g = reader_or (first_reader g.spare.value) g.seat.inner.me.0

  abbrev pub is_put_of : TripleCell T → TriplePut T → Type 0
  is_put_of c p = IsName (record { table = p.seat.inner.table_id; opening = (put_notes p).opening.value }) (cell_name c)

  abbrev pub is_get_of : TripleCell T → TripleGet T → Type 0
  is_get_of c g = IsName (record { table = g.seat.inner.table_id; opening = (get_notes g).opening.value }) (cell_name c)

  abbrev pub is_receipt_of : TripleCell T → TripleReceipt T → Type 0
  is_receipt_of c t = t.seat.inner.table_id ≡ c.table.inner.shared.table_id

  abbrev pub written_by : TriplePut T → List T
  written_by p = (put_notes p).written

  abbrev pub answers_of : TripleGet T → List T
  answers_of g = (get_notes g).answers

  -- the record in the slot that the pass holds
  abbrev pub at_hand_of : TripleGet T → T
  at_hand_of g = (get_notes g).at_hand.value

  abbrev pub told_to : TripleGet T → List T
  told_to g = (get_notes g).told

  -- the record that a receipt names
  abbrev pub named_by : TripleReceipt T → T
  named_by t = (receipt_or (dated t.spare.value) t.seat.inner.me.0).item

  -- a time at which that record was written, and all the writes up to then
  abbrev pub time_of : TripleReceipt T → ℕ
  time_of t = (receipt_or (dated t.spare.value) t.seat.inner.me.0).time

  abbrev pub writes_of : TripleReceipt T → Known T
  writes_of t = (receipt_or (dated t.spare.value) t.seat.inner.me.0).writes

  -- the calls made with a pass, in the table's time; the numbers of the answers; the writes of which a reader knows;
  -- and those of which receipts told it
  abbrev pub put_times : TriplePut T → Times
  put_times p = (put_notes p).times

  abbrev pub get_times : TripleGet T → Times
  get_times g = (get_notes g).times

  abbrev pub numbers_of : TripleGet T → List ℕ
  numbers_of g = (get_notes g).numbers

  abbrev pub known_to : TripleGet T → Known T
  known_to g = (get_notes g).known

  abbrev pub heard_by : TripleGet T → List (Known T)
  heard_by g = (get_notes g).heard

  abbrev pub swaps_of_put : TriplePut T → ℕ
  swaps_of_put p = (put_notes p).swaps

  abbrev pub loads_of : TripleGet T → ℕ
  loads_of g = (get_notes g).loads

  abbrev pub swaps_of : TripleGet T → ℕ
  swaps_of g = (get_notes g).swaps

  -- the slots that the pass holds, each with its record
  abbrev pub held_by : TripleGet T → List (ℕ × T)
  held_by g = g.seat.inner.me.1

  -- the word that the last load found
  abbrev pub found_by : TripleGet T → ℕ
  found_by g = (get_notes g).found

  -- what the load, and the swap where there is one, make of the reader's pass: the answer is then at hand
  pub record HasLooked (fits : T → Type 0) (rises : T → T → Type 0) (c : TripleCell T)
      (g h : TripleGet T) : Type 0 where
    pub own : is_get_of c h
    pub answers : answers_of h ≡ answers_of g ++ at_hand_of h ∷ []
    pub told : told_to h ≡ told_to g
    pub running : IsAnswer fits rises (opening_of c) (answers_of g) (told_to g) (at_hand_of h)
    pub loaded : loads_of h ≡ loads_of g + 1
    pub unmarked : found_by h < 4 → swaps_of h ≡ swaps_of g
    pub marked : 4 ≤ found_by h → swaps_of h ≡ swaps_of g + 1
    pub accesses : loads_of h + swaps_of h ≤ loads_of g + swaps_of g + 3
    pub timed : IsNextCall (get_times g) (get_times h)
    pub numbered : IsNextAnswer (opening_of c) (known_to g) (known_to h) (numbers_of g)
        (numbers_of h) (answers_of h) (get_times h) (at_hand_of h)
    pub heeds : (heard_by h ≡ heard_by g) × AreHeeded (heard_by h) (known_to h) (last_or 0 (numbers_of h))
    pub so_far : AreCallsSoFar fits rises (opening_of c) (heard_by h) (answers_of h) (get_times h)
