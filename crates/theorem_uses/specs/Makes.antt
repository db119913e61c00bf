-- Consequences of a make and an end through C, by its status (this project's own).
use Rattle.std.specs.Prelude.{◌≡◌, ◌≢◌, ◌⊎◌, ℕ, []}
use Rattle.std.specs.Arc.{arc_value}
use Rattle.cell_contract.specs.Intervals.{no_times, none_known}
use Rattle.cell_four_slot.specs.Words as four
use Rattle.cell_triple.specs.Words as triple
use Rattle.c_registers.specs.FourSlotCalls as four_slot
use Rattle.c_registers.specs.Handles.{Holding, IsEnd, IsMake}
use Rattle.c_registers.specs.Numbers.{numbered}
use Rattle.c_registers.specs.TripleCalls.{IsMade}
use Rattle.c_registers.specs.declared.four_slot.FourSlotReader.{FourSlotReader}
use Rattle.c_registers.specs.declared.four_slot.FourSlotWriter.{FourSlotWriter}
use Rattle.c_registers.specs.declared.triple.TripleReader.{TripleReader}
use Rattle.c_registers.specs.declared.triple.TripleWriter.{TripleWriter}

module _ (W : Type 0) where
  -- both sides are of one cell, which opened with the record under the number 0, and no call of either was made
  abbrev pub FourSlotMakesShow : Type 0
  FourSlotMakesShow = (p : FourSlotWriter W) (g : FourSlotReader W) (w : W) → four_slot.IsMade p g w →
      (arc_value p.cell ≡ arc_value g.cell) × (four.opening_of (arc_value g.cell) ≡ numbered 0 w)
      × (four.written_by p.put ≡ []) × (four.answers_of g.get ≡ []) × (four.told_to g.get ≡ [])
      × (four.put_times p.put ≡ no_times)
      × (four.get_times g.get ≡ no_times) × (four.numbers_of g.get ≡ []) × (four.known_to g.get ≡ none_known)

  abbrev pub TripleMakesShow : Type 0
  TripleMakesShow = (p : TripleWriter W) (g : TripleReader W) (w : W) → IsMade p g w →
      (arc_value p.room.inner.cell ≡ arc_value g.room.inner.cell)
      × (triple.opening_of (arc_value g.room.inner.cell) ≡ numbered 0 w) × (triple.written_by p.room.inner.put ≡ [])
      × (triple.answers_of g.room.inner.get ≡ []) × (triple.told_to g.room.inner.get ≡ [])
      × (triple.put_times p.room.inner.put ≡ no_times) × (triple.get_times g.room.inner.get ≡ no_times)
      × (triple.numbers_of g.room.inner.get ≡ []) × (triple.known_to g.room.inner.get ≡ none_known)

module _ (D E W : Type 0) where
  -- with status 0 both handles were empty, and have the two sides; with any other they are what they were
  abbrev pub MakeStatusesShow : Type 0
  MakeStatusesShow = (c d : ℕ) (writes : FourSlotWriter W → D) (reads : FourSlotReader W → E) (w w' : Holding D)
      (r r' : Holding E) (first : W) →
      (IsMake (c, d) writes reads four_slot.IsMade w r w' r' first 0 →
      (p : FourSlotWriter W) × (g : FourSlotReader W) × (w.live ≡ 0)
      × (r.live ≡ 0) × (w'.live ≡ c) × (w'.side ≡ writes p) × (r'.live ≡ d) × (r'.side ≡ reads g)
      × four_slot.IsMade p g first)
      × (IsMake (c, d) writes reads four_slot.IsMade w r w' r' first 1 →
      (w.live ≡ 0) × (r.live ≡ 0) × (w' ≡ w) × (r' ≡ r))
      × (IsMake (c, d) writes reads four_slot.IsMade w r w' r' first 2 →
      ((w.live ≢ 0) ⊎ (r.live ≢ 0)) × (w' ≡ w) × (r' ≡ r))

module _ (D : Type 0) where
  -- with status 0 the handle had such a side and has none; with any other it is what it was
  abbrev pub EndStatusesShow : Type 0
  EndStatusesShow = (code : ℕ) (h k : Holding D) →
      (IsEnd code h k 0 → (h.live ≡ code) × (k.live ≡ 0))
      × (IsEnd code h k 3 → (h.live ≡ 0) × (k ≡ h))
      × (IsEnd code h k 5 → (h.live ≢ 0) × (h.live ≢ code) × (k ≡ h))
      × (IsEnd code h k 12 → (h.live ≡ 255) × (k ≡ h))
