-- Consequences of a write through C of words that were filled in place (this project's own).
use Rattle.std.specs.Prelude.{◌≡◌, ◌≢◌, ℕ, ◌+◌, ◌≤◌, ◌^◌, [], ◌∷◌, ◌++◌}
use Rattle.cell_contract.specs.Intervals.{IsNextCall}
use Rattle.cell_triple.specs.Words.{put_times, swaps_of_put, written_by}
use Rattle.c_registers.specs.Handles.{Holding, IsPublish, IsSlotFilled}
use Rattle.c_registers.specs.Numbers.{numbered}
use Rattle.c_registers.specs.TripleCalls.{HasPublished, HasWritten, in_slot, writer_with}
use Rattle.c_registers.specs.declared.triple.TripleWriter.{TripleWriter}

module _ (W : Type 0) where
  -- the cell is the same, and has the record under the next number, by at most three swaps
  abbrev pub NextShows : Type 0
  NextShows = (p q : TripleWriter W) (w : W) → HasWritten p q w → (q.number ≡ p.number + 1)
      × (q.room.inner.cell ≡ p.room.inner.cell)
      × (written_by q.room.inner.put ≡ written_by p.room.inner.put ++ numbered (p.number + 1) w ∷ [])
      × (swaps_of_put q.room.inner.put ≤ swaps_of_put p.room.inner.put + 3)
      × IsNextCall (put_times p.room.inner.put) (put_times q.room.inner.put)

module _ (D W : Type 0) where
  -- with status 0 the words in the side's slot were written; with any other the handle is what it was
  abbrev pub PublishesShow : Type 0
  PublishesShow = (code : ℕ) (writes : TripleWriter W → D) (last : TripleWriter W → ℕ) (h k : Holding D) →
      (IsPublish code writes last HasPublished h k 0 → (p : TripleWriter W) × (q : TripleWriter W) × (h.live ≡ code)
      × (h.side ≡ writes p) × (k.live ≡ code) × (k.side ≡ writes q) × HasWritten p q (in_slot p).words)
      × (IsPublish code writes last HasPublished h k 3 → (h.live ≡ 0) × (k ≡ h))
      × (IsPublish code writes last HasPublished h k 4 → (p : TripleWriter W) × (h.live ≡ code) × (h.side ≡ writes p)
      × (2 ^ 64 ≤ last p + 1) × (k ≡ h))
      × (IsPublish code writes last HasPublished h k 5 → (h.live ≢ 0) × (h.live ≢ code) × (k ≡ h))
      × (IsPublish code writes last HasPublished h k 12 → (h.live ≡ 255) × (k ≡ h))

  -- filling the slot writes nothing, and a publish then writes these words, under the next number
  abbrev pub FillingsShow : Type 0
  FillingsShow = (code : ℕ) (writes : TripleWriter W → D) (last : TripleWriter W → ℕ) (h k l : Holding D) (w : W) →
      ((p q : TripleWriter W) → writes p ≡ writes q → p ≡ q) → IsSlotFilled code writes writer_with h k w →
      IsPublish code writes last HasPublished k l 0 →
      (p : TripleWriter W) × (q : TripleWriter W) × (h.live ≡ code) × (h.side ≡ writes p)
      × (k.live ≡ h.live) × (l.side ≡ writes q) × (q.room.inner.cell ≡ p.room.inner.cell) × (q.number ≡ p.number + 1)
      × (written_by q.room.inner.put ≡ written_by p.room.inner.put ++ numbered (p.number + 1) w ∷ [])
