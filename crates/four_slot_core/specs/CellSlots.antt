-- The slot accesses of a cell that is stepped from its opening, as intervals of positions, and what a cell over safe
-- slots answers (L. Lamport, On Interprocess Communication, Parts I and II, Distributed Computing 1, 1986).
use Rattle.std.specs.Prelude.{◌≡◌, ℕ, List, slice_get, Some, IsSome}
use Rattle.four_slot_core.specs.Events.{slot_number}
use Rattle.four_slot_core.specs.SafeSlots.{IsSafe, SlotRead, SlotWrite}
use Rattle.four_slot_core.specs.Traces.{reads_of, Trace, writes_of}

module _ {R : Type 0} where
  -- the slot write of write k: from its W2 to its W3, in its slot, with its record
  pub record IsSlotWrite (items : ℕ → R) (t : Trace R) (k : ℕ) (w : SlotWrite R) : Type 0 where
    pub slot : (writes_of t).slot k ≡ Some (slot_number w.slot)
    pub begins : (writes_of t).at k 1 ≡ Some w.begins
    pub ends : (writes_of t).at k 2 ≡ w.ends
    pub item : w.item ≡ items k

  -- the slot read of read m: from its R4 to its R5, in its slot, with its answer
  pub record IsSlotRead (t : Trace R) (m : ℕ) (r : SlotRead R) : Type 0 where
    pub slot : (reads_of t).slot m ≡ Some (slot_number r.slot)
    pub begins : (reads_of t).at m 3 ≡ Some r.begins
    pub ends : (reads_of t).at m 4 ≡ Some r.ends
    pub answer : slice_get t.answers m ≡ Some r.answer

  -- the answers are those of a cell over safe slots, each of which has the opening first: with all slot writes, each
  -- slot read answers as a safe slot does
  pub record IsOverSafeSlots (opening noise : R) (items : ℕ → R) (t : Trace R) : Type 0 where
    pub writes : List (SlotWrite R)
    pub each : (k : ℕ) (w : SlotWrite R) → slice_get writes k ≡ Some w → IsSlotWrite items t k w
    pub all : (k : ℕ) → IsSome ((writes_of t).at k 1) → IsSome (slice_get writes k)
    pub safe : (m : ℕ) (answer : R) → slice_get t.answers m ≡ Some answer
        → (r : SlotRead R) × IsSlotRead t m r × IsSafe (λ slot. opening) noise writes r
