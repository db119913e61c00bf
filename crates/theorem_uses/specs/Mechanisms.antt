-- Consequences of how a played cell came about, and of safe slots (this project's own).
use Rattle.std.specs.Prelude.{◌≡◌, ◌≢◌, ℕ, ◌+◌, ◌<◌, ◌≤◌, List, [], ◌∷◌, length, slice_get, None, Some, IsSome}
use Rattle.history_core.specs.declared.history.Op.{Op}
use Rattle.history_core.specs.declared.history.Kind.TheVariants.{Write, Read, Refused}
use Rattle.history_core.specs.Numbers.{StandsAt}
use Rattle.history_core.specs.Orders.{times_of}
use Rattle.four_slot_core.specs.Accesses.{Accesses, IsSameSlot, IsSource}
use Rattle.history_core.specs.Registers.{IsBefore}
use Rattle.four_slot_core.specs.CellSlots.{IsOverSafeSlots}
use Rattle.four_slot_core.specs.Events.{slot_number}
use Rattle.four_slot_core.specs.Play.{run}
use Rattle.four_slot_core.specs.SafeSlots.{IsSafe, SlotRead, SlotWrite}
use Rattle.four_slot_core.specs.Traces.{reads_of, Trace, writes_of}
use Rattle.four_slot_core.specs.declared.state.Slot.{Slot}
use Rattle.four_slot_core.specs.declared.schedule.CellReport.{CellReport}
use Rattle.four_slot_core.specs.declared.schedule.CellSchedule.{CellSchedule}
use Rattle.four_slot_play.specs.CellReports.{IsRunReport, reader_in, writer_in}
use Rattle.four_slot_play.specs.ReportOrders.{HasNumber}

-- the write that a read of this number answers had filled its slot before it and had begun before it ended, and no
-- write that had filled the slot before has a greater number
pub record FilledBy (writer reader : Accesses) (m n : ℕ) : Type 0 where
  pub last : (k : ℕ) → IsSameSlot (writer.slot k) (reader.slot m) → IsBefore (writer.at k 2) (reader.at m 3) → k < n
  pub slot : (k : ℕ) → n ≡ k + 1 → (slot : ℕ) × (writer.slot k ≡ Some slot) × (reader.slot m ≡ Some slot)
  pub before : (k : ℕ) → n ≡ k + 1 → IsBefore (writer.at k 2) (reader.at m 3)

module _ (R : Type 0) where
  -- a report has a slot of each operation, those and the answers of the schedule's run, and no operation is refused
  abbrev pub RunOfCellShows : Type 0
  RunOfCellShows = (s : CellSchedule R) (r : CellReport R) (k m p : ℕ) (op : Op R) → IsRunReport s r →
      (length r.slots ≡ length r.history.ops)
      × ((writer_in s r).slot k ≡ slice_get (run s.opening s.noise s.writes s.steps).write_slots k)
      × ((reader_in s r).slot m ≡ slice_get (run s.opening s.noise s.writes s.steps).read_slots m)
      × (slice_get r.history.ops p ≡ Some op → (op.kind ≢ Refused)
      × (op.who ≡ 1 → (reader_in s r).at m 0 ≡ Some op.starts →
      op.item ≡ slice_get (run s.opening s.noise s.writes s.steps).answers m))

  -- a finished read has the number of the write that filled its slot; that is no less than the number of a write that
  -- had ended before, or than that of an earlier read, and the write with it had begun
  abbrev pub FinishedReadsShow : Type 0
  FinishedReadsShow = (s : CellSchedule R) (r : CellReport R) (m : ℕ) → IsRunReport s r →
      IsSome ((reader_in s r).at m 4) → (n : ℕ) × FilledBy (writer_in s r) (reader_in s r) m n
      × ((k : ℕ) → IsBefore ((writer_in s r).at k 4) ((reader_in s r).at m 0) → k < n)
      × ((j i : ℕ) → j < m → IsSource (writer_in s r) (reader_in s r) j i → i ≤ n)
      × ((k : ℕ) → n ≡ k + 1 → IsBefore ((writer_in s r).at k 0) ((reader_in s r).at m 4))

  -- a report's order lists each finished operation once, an unfinished read never, and an unfinished
  -- write once if it has made W4
  abbrev pub CellOrdersShow : Type 0
  CellOrdersShow = (s : CellSchedule R) (r : CellReport R) (i p k : ℕ) (op : Op R) → IsRunReport s r →
      slice_get r.history.ops p ≡ Some op → (slice_get r.order i ≡ Some p → p < length r.history.ops)
      × (IsSome op.ends → times_of p r.order ≡ 1)
      × (op.ends ≡ None → op.kind ≢ Write → times_of p r.order ≡ 0)
      × (op.kind ≡ Write → (writer_in s r).at k 0 ≡ Some op.starts → IsSome ((writer_in s r).at k 3) →
      times_of p r.order ≡ 1)
      × (op.ends ≡ None → ((n : ℕ) → (writer_in s r).at n 0 ≡ Some op.starts → (writer_in s r).at n 3 ≡ None) →
      times_of p r.order ≡ 0)

  -- a report's order has the writes by number; of one number no read stands before the write, and
  -- reads stand by their beginnings
  abbrev pub CellNumbersShow : Type 0
  CellNumbersShow = (s : CellSchedule R) (r : CellReport R) (i j p q : ℕ) (a b : Op R) → IsRunReport s r →
      StandsAt r.history.ops r.order i p a → StandsAt r.history.ops r.order j q b → i < j →
      ((k l : ℕ) → a.kind ≡ Write → b.kind ≡ Write → (writer_in s r).at k 0 ≡ Some a.starts →
      (writer_in s r).at l 0 ≡ Some b.starts → k < l)
      × ((m k : ℕ) → a.kind ≡ Read → b.kind ≡ Write → (reader_in s r).at m 0 ≡ Some a.starts →
      (writer_in s r).at k 0 ≡ Some b.starts → IsSource (writer_in s r) (reader_in s r) m (k + 1) → ⊥)
      × ((l m n : ℕ) → a.kind ≡ Read → b.kind ≡ Read → (reader_in s r).at l 0 ≡ Some a.starts →
      (reader_in s r).at m 0 ≡ Some b.starts →
      IsSource (writer_in s r) (reader_in s r) l n → IsSource (writer_in s r) (reader_in s r) m n → a.starts < b.starts)

  -- what stands in an order stands in the list of operations
  abbrev pub PlacesShow : Type 0
  PlacesShow = (ops : List (Op R)) (order : List ℕ) (i p : ℕ) (op : Op R) → StandsAt ops order i p op →
      (slice_get order i ≡ Some p) × (slice_get ops p ≡ Some op)

  -- a safe slot answers the noise to a read that meets a write, and else the record of the last write, or the opening
  abbrev pub SafeSlotsShow : Type 0
  SafeSlotsShow = (first : Slot → R) (noise x y answer : R) (a b : Slot) (begin end from to : ℕ) →
      -- the only write is under way, in the slot of the read
      (IsSafe first noise (record { slot = a; begins = begin; ends = None; item = x } ∷ [])
      (record { slot = a; begins = from; ends = to; answer = answer }) → begin ≤ to → answer ≡ noise)
      -- it began after the read
      × (IsSafe first noise (record { slot = a; begins = begin; ends = None; item = x } ∷ [])
      (record { slot = a; begins = from; ends = to; answer = answer }) → to < begin → answer ≡ first a)
      × (IsSafe first noise (record { slot = a; begins = begin; ends = Some end; item = x } ∷ [])
      (record { slot = a; begins = from; ends = to; answer = answer }) → to < begin → from ≤ end → answer ≡ first a)
      -- it had ended before
      × (IsSafe first noise (record { slot = a; begins = begin; ends = Some end; item = x } ∷ [])
      (record { slot = a; begins = from; ends = to; answer = answer }) → end < from → answer ≡ x)
      -- it was in another slot
      × (IsSafe first noise (record { slot = b; begins = begin; ends = Some end; item = x } ∷ [])
      (record { slot = a; begins = from; ends = to; answer = answer }) → b ≢ a → answer ≡ first a)
      -- of two that had ended before the later one counts
      × (IsSafe first noise (record { slot = a; begins = begin; ends = Some end; item = x } ∷
      record { slot = a; begins = begin; ends = Some end; item = y } ∷ [])
      (record { slot = a; begins = from; ends = to; answer = answer }) → end < from → answer ≡ y)

  -- a cell over safe slots has a slot write for each write that has begun one, and each of its
  -- answers is that of a slot read
  abbrev pub SlotAccessesShow : Type 0
  SlotAccessesShow = (opening noise : R) (items : ℕ → R) (t : Trace R) → IsOverSafeSlots opening noise items t →
      (writes : List (SlotWrite R))
      × ((k : ℕ) → IsSome ((writes_of t).at k 1) → (w : SlotWrite R) × (slice_get writes k ≡ Some w)
      × ((writes_of t).slot k ≡ Some (slot_number w.slot)) × ((writes_of t).at k 1 ≡ Some w.begins)
      × ((writes_of t).at k 2 ≡ w.ends)
      × (w.item ≡ items k))
      × ((m : ℕ) (answer : R) → slice_get t.answers m ≡ Some answer → (r : SlotRead R)
      × ((reads_of t).slot m ≡ Some (slot_number r.slot)) × ((reads_of t).at m 3 ≡ Some r.begins)
      × ((reads_of t).at m 4 ≡ Some r.ends)
      × (r.answer ≡ answer) × IsSafe (λ slot. opening) noise writes r)

-- a write's number is its own, from 1 on, and a read's that of its source; a cell refuses none
abbrev pub OwnNumbersShow : Type 0
OwnNumbersShow = (writer reader : Accesses) (begin n : ℕ) →
    (HasNumber writer reader Write begin n → (k : ℕ) × (writer.at k 0 ≡ Some begin) × (n ≡ k + 1))
    × (HasNumber writer reader Read begin n → (m : ℕ) × (reader.at m 0 ≡ Some begin) × IsSource writer reader m n)
    × (HasNumber writer reader Refused begin n → ⊥)
