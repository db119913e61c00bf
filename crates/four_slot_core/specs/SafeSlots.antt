-- Safe slots (L. Lamport, On Interprocess Communication, Parts I and II, Distributed Computing 1, 1986):
-- what a slot read gives, by the intervals of the slot accesses alone; and the slot accesses of a cell
-- that is stepped from any state.
use Rattle.std.specs.Prelude.{◌≡◌, ℕ, ◌<◌, ◌≤◌, ◌&&◌, List, [], ◌∷◌, ◌++◌, slice_get, Option, None, Some, ◌⊎◌}
use Rattle.std.specs.List.{fold}
use Rattle.four_slot_core.specs.declared.schedule.Turn.{Turn}
use Rattle.four_slot_core.specs.declared.schedule.Turn.TheVariants.{Writer, Reader}
use Rattle.four_slot_core.specs.declared.state.Slot.{Slot}
use Rattle.four_slot_core.specs.declared.state.State.{State}
use Rattle.four_slot_core.specs.declared.state.Stage.{Stage}
use Rattle.four_slot_core.specs.declared.state.Stage.TheVariants.{W1, W2}
use Rattle.four_slot_core.specs.declared.state.ReaderStage.{ReaderStage}
use Rattle.four_slot_core.specs.declared.state.ReaderStage.TheVariants.{R3, R4}
use Rattle.four_slot_core.specs.Events.{after_read, after_write, answer, is_writing, same_slot}
use Rattle.four_slot_core.specs.Invariant.{IsReading}
use Rattle.four_slot_core.specs.Traces.{Moment}

-- a slot write: the interval from its beginning to its end, or without end, and its record
pub record SlotWrite (R : Type 0) : Type 0 where
  pub slot : Slot
  pub begins : ℕ
  pub ends : Option ℕ
  pub item : R

-- a slot read that has ended
pub record SlotRead (R : Type 0) : Type 0 where
  pub slot : Slot
  pub begins : ℕ
  pub ends : ℕ
  pub answer : R

-- they are of one slot, and neither ends before the other begins
abbrev pub Meets : {R : Type 0} → SlotWrite R → SlotRead R → Type 0
Meets w r = (w.slot ≡ r.slot) × (w.begins ≤ r.ends) × ((e : ℕ) → w.ends ≡ Some e → r.begins ≤ e)

-- the write ended in this slot before this position
abbrev pub EndsBefore : {R : Type 0} → SlotWrite R → Slot → ℕ → Type 0
EndsBefore w slot at = (w.slot ≡ slot) × (e : ℕ) × (w.ends ≡ Some e) × (e < at)

-- the record of the last write that ended in this slot before this position; where there is
-- none, the first record there
abbrev pub IsLastRecord : {R : Type 0} → (Slot → R) → List (SlotWrite R) → Slot → ℕ → R → Type 0
IsLastRecord {R} first writes slot at x =
    (((i : ℕ) (w : SlotWrite R) → slice_get writes i ≡ Some w → ¬ EndsBefore w slot at) × (x ≡ first slot))
    ⊎ ((i : ℕ) × (w : SlotWrite R) × (slice_get writes i ≡ Some w) × EndsBefore w slot at
    × ((j : ℕ) (v : SlotWrite R) → i < j → slice_get writes j ≡ Some v → ¬ EndsBefore v slot at) × (x ≡ w.item))

-- a safe slot's answer: a read that meets a write gives the noise, any other the last record before it
pub record IsSafe {R : Type 0} (first : Slot → R) (noise : R) (writes : List (SlotWrite R))
    (r : SlotRead R) : Type 0 where
  pub noisy : (i : ℕ) (w : SlotWrite R) → slice_get writes i ≡ Some w → Meets w r → r.answer ≡ noise
  pub quiet : ((i : ℕ) (w : SlotWrite R) → slice_get writes i ≡ Some w → ¬ Meets w r) →
      IsLastRecord first writes r.slot r.begins r.answer

-- a cell, its slot writes that have ended, the position of the last W2, its slot reads that have ended,
-- and the position of the last R4
pub record SlotTrace (R : Type 0) : Type 0 where
  pub cell : State R
  pub ended : List (SlotWrite R)
  pub since : ℕ
  pub reads : List (SlotRead R)
  pub entered : ℕ

-- the slot write in progress, from W2 to W3
abbrev pub open_write : {R : Type 0} → Stage → Slot → R → ℕ → List (SlotWrite R)
open_write W2 slot item since = record { slot = slot; begins = since; ends = None; item = item } ∷ []
open_write _ slot item since = []

-- all slot writes, in order of beginning
abbrev pub slot_writes : {R : Type 0} → SlotTrace R → List (SlotWrite R)
slot_writes t = t.ended ++ open_write t.cell.writer t.cell.write t.cell.item t.since

abbrev pub since_after : Stage → ℕ → ℕ → ℕ
since_after W1 at since = at
since_after _ at since = since

abbrev pub ended_after : {R : Type 0} → Stage → ℕ → State R → ℕ → List (SlotWrite R) → List (SlotWrite R)
ended_after W2 at s since ended = ended ++ record { slot = s.write; begins = since; ends = Some at; item = s.item } ∷ []
ended_after _ at s since ended = ended

abbrev pub entered_after : ReaderStage → ℕ → ℕ → ℕ
entered_after R3 at entered = at
entered_after _ at entered = entered

abbrev pub reads_after : {R : Type 0} → ReaderStage → ℕ → State R → ℕ → List (SlotRead R) → List (SlotRead R)
reads_after R4 at s entered reads =
    reads ++ record { slot = s.read; begins = entered; ends = at; answer = answer s } ∷ []
reads_after _ at s entered reads = reads

-- one step, where the writer's step at a position has the item `items` of it
abbrev pub slots_step : {R : Type 0} → (ℕ → R) → SlotTrace R → Turn → ℕ → SlotTrace R
slots_step items t Writer at =
    record t {
      cell = after_write t.cell.writer (items at) t.cell;
      ended = ended_after t.cell.writer at t.cell t.since t.ended;
      since = since_after t.cell.writer at t.since;
    }
slots_step items t Reader at =
    record t {
      cell = after_read t.cell.reader t.cell;
      reads = reads_after t.cell.reader at t.cell t.entered t.reads;
      entered = entered_after t.cell.reader at t.entered;
    }

-- in this state the slot read in progress, if there is one, has met the slot write in progress where that is
-- of the same slot, and no other
abbrev pub IsMarked : {R : Type 0} → State R → Type 0
IsMarked s = IsReading s.reader → s.met ≡ (is_writing s.writer && same_slot s.write s.read)

-- a cell stepped from this state; slot accesses in progress there began at position 0
abbrev pub slot_trace : {R : Type 0} → State R → (ℕ → R) → List Moment → SlotTrace R
slot_trace s items moments =
    fold (λ t m. slots_step items t m.turn m.at)
    (record { cell = s; ended = []; since = 0; reads = []; entered = 0 }) moments
