-- Consequences of a read, a look, a hold and a loan through C, by its status (this project's own).
use Rattle.std.specs.Prelude.{◌≡◌, ◌≢◌, ◌⊎◌, ℕ, ◌+◌, ◌<◌, ◌≤◌, List, [], ◌∷◌, ◌++◌, slice_get, Some}
use Rattle.std.specs.Arc.{arc_value}
use Rattle.cell_contract.specs.Intervals.{At, IsNextAnswer, IsNextCall}
use Rattle.cell_contract.specs.Running.{IsAnswer}
use Rattle.cell_four_slot.specs.Words as four
use Rattle.cell_triple.specs.Words as triple
use Rattle.c_registers.specs.FourSlotCalls as four_slot
use Rattle.c_registers.specs.Handles.{Holding, IsBack, IsHold, IsLook, IsRead, LacksSide}
use Rattle.c_registers.specs.Numbers.{Always, IsNoEarlier, numbered}
use Rattle.c_registers.specs.TripleCalls.{at_hand, HasRead, Stays}
use Rattle.c_registers.specs.declared.numbered.Numbered.{Numbered}
use Rattle.c_registers.specs.declared.four_slot.FourSlotReader.{FourSlotReader}
use Rattle.c_registers.specs.declared.triple.TripleReader.{TripleReader}

module _ (W : Type 0) where
  -- a read over four slots answers one record more, of the same cell, by two accesses or three: an answer of the
  -- running cell, and the record with its place of the writes known
  abbrev pub FourSlotReadsShow : Type 0
  FourSlotReadsShow = (g h : FourSlotReader W) (a : Numbered W) → four_slot.HasRead g h a → (h.cell ≡ g.cell)
      × (four.answers_of h.get ≡ four.answers_of g.get ++ a ∷ []) × (four.told_to h.get ≡ four.told_to g.get)
      × (four.reader_accesses h.get ≤ four.reader_accesses g.get + 3)
      × (four.pair_said h.get ≡ four.pair_said g.get → four.reader_accesses h.get ≡ four.reader_accesses g.get + 2)
      × (four.pair_said h.get ≢ four.pair_said g.get → four.reader_accesses h.get ≡ four.reader_accesses g.get + 3)
      × IsAnswer Always IsNoEarlier (four.opening_of (arc_value g.cell)) (four.answers_of g.get) (four.told_to g.get) a
      × IsNextCall (four.get_times g.get) (four.get_times h.get)
      × IsNextAnswer (four.opening_of (arc_value g.cell)) (four.known_to g.get) (four.known_to h.get)
      (four.numbers_of g.get) (four.numbers_of h.get) (four.answers_of h.get) (four.get_times h.get) a

  -- so does a read of a triple buffer, by at most three loads and swaps, and then has the answer at hand
  abbrev pub TripleReadsShow : Type 0
  TripleReadsShow = (g h : TripleReader W) (a : Numbered W) → HasRead g h a → (h.room.inner.cell ≡ g.room.inner.cell)
      × (triple.at_hand_of h.room.inner.get ≡ a)
      × (triple.answers_of h.room.inner.get ≡ triple.answers_of g.room.inner.get ++ a ∷ [])
      × (triple.told_to h.room.inner.get ≡ triple.told_to g.room.inner.get)
      × (triple.loads_of h.room.inner.get + triple.swaps_of h.room.inner.get
      ≤ triple.loads_of g.room.inner.get + triple.swaps_of g.room.inner.get + 3)
      × IsAnswer Always IsNoEarlier (triple.opening_of (arc_value g.room.inner.cell))
      (triple.answers_of g.room.inner.get) (triple.told_to g.room.inner.get) a
      × IsNextCall (triple.get_times g.room.inner.get) (triple.get_times h.room.inner.get)
      × IsNextAnswer (triple.opening_of (arc_value g.room.inner.cell)) (triple.known_to g.room.inner.get)
      (triple.known_to h.room.inner.get) (triple.numbers_of g.room.inner.get) (triple.numbers_of h.room.inner.get)
      (triple.answers_of h.room.inner.get) (triple.get_times h.room.inner.get) a

  -- whatever the other handle writes: once a read has answered, no read of the side, over four slots, that began after
  -- another one had ended has a smaller number than that one
  abbrev pub FourSlotReadsNeverFall : Type 0
  FourSlotReadsNeverFall = (g h : FourSlotReader W) (a : Numbered W) (i j e f s : ℕ) (b c : Numbered W) →
      four_slot.HasRead g h a → slice_get (four.answers_of h.get) i ≡ Some b →
      slice_get (four.answers_of h.get) j ≡ Some c → At (four.get_times h.get).ends i e →
      At (four.get_times h.get).ends j f → At (four.get_times h.get).begins j s → e < s → c.number < b.number → ⊥

  -- nor over a triple buffer, and if the number is the same the words are
  abbrev pub TripleReadsNeverFall : Type 0
  TripleReadsNeverFall = (g h : TripleReader W) (a : Numbered W) (i j e f s : ℕ) (b c : Numbered W) → HasRead g h a →
      slice_get (triple.answers_of h.room.inner.get) i ≡ Some b →
      slice_get (triple.answers_of h.room.inner.get) j ≡ Some c →
      At (triple.get_times h.room.inner.get).ends i e → At (triple.get_times h.room.inner.get).ends j f →
      At (triple.get_times h.room.inner.get).begins j s → e < s →
      (b.number ≤ c.number) × (b.number ≡ c.number → b.words ≡ c.words)

module _ (D W : Type 0) where
  -- with status 0 the handle had a reading side, which has read just this; with any other it is what it was,
  -- and so are record and number
  abbrev pub ReadStatusesShow : Type 0
  ReadStatusesShow = (code : ℕ) (reads : FourSlotReader W → D) (h k : Holding D) (item item' : W) (number number' : ℕ) →
      (IsRead code reads four_slot.HasRead h k item item' number number' 0 →
      (p : FourSlotReader W) × (q : FourSlotReader W)
      × (h.live ≡ code) × (h.side ≡ reads p) × (k.live ≡ code) × (k.side ≡ reads q)
      × four_slot.HasRead p q (numbered number' item'))
      × (IsRead code reads four_slot.HasRead h k item item' number number' 3 → (h.live ≡ 0) × (k ≡ h) × (item' ≡ item)
      × (number' ≡ number))
      × (IsRead code reads four_slot.HasRead h k item item' number number' 5 → (h.live ≢ 0) × (h.live ≢ code) × (k ≡ h)
      × (item' ≡ item) × (number' ≡ number))
      × (IsRead code reads four_slot.HasRead h k item item' number number' 12 →
      (h.live ≡ 255) × (k ≡ h) × (item' ≡ item)
      × (number' ≡ number))

  -- a look is a read whose record isn't given
  abbrev pub LookStatusesShow : Type 0
  LookStatusesShow = (code : ℕ) (reads : TripleReader W → D) (h k : Holding D) (number number' : ℕ) →
      (IsLook code reads HasRead h k number number' 0 →
      (p : TripleReader W) × (q : TripleReader W) × (w : W) × (h.live ≡ code)
      × (h.side ≡ reads p) × (k.live ≡ code) × (k.side ≡ reads q) × HasRead p q (numbered number' w))
      × (IsLook code reads HasRead h k number number' 3 → (h.live ≡ 0) × (k ≡ h) × (number' ≡ number))
      × (IsLook code reads HasRead h k number number' 5 → (h.live ≢ 0) × (h.live ≢ code) × (k ≡ h) × (number' ≡ number))
      × (IsLook code reads HasRead h k number number' 12 → (h.live ≡ 255) × (k ≡ h) × (number' ≡ number))

  -- with status 0 a hold leads to the words of the record at hand, and with any other to what it led to
  abbrev pub HoldStatusesShow : Type 0
  HoldStatusesShow = (code : ℕ) (reads : TripleReader W → D) (words : W → List ℕ) (h : Holding D)
      (seen seen' : List ℕ) → let at_words : TripleReader W → List ℕ = λ g. words (at_hand g).words in
      (IsHold code reads at_words h seen seen' 0 → (g : TripleReader W) × (h.live ≡ code) × (h.side ≡ reads g)
      × (seen' ≡ words (at_hand g).words))
      × (IsHold code reads at_words h seen seen' 3 → (h.live ≡ 0) × (seen' ≡ seen))
      × (IsHold code reads at_words h seen seen' 5 → (h.live ≢ 0) × (h.live ≢ code) × (seen' ≡ seen))
      × (IsHold code reads at_words h seen seen' 12 → (h.live ≡ 255) × (seen' ≡ seen))

  -- once the record is back, the handle has its side, which has its cell, knows what it knew and holds the slot
  -- that it held; or it is as it was
  abbrev pub BacksShow : Type 0
  BacksShow = (code : ℕ) (reads : TripleReader W → D) (h k : Holding D) → IsBack code reads Stays h k →
      ((f : TripleReader W) × (g : TripleReader W) × (h.live ≡ code) × (h.side ≡ reads f) × (k.live ≡ h.live)
      × (k.side ≡ reads g) × (g.room.inner.cell ≡ f.room.inner.cell)
      × (g.room.inner.get.seat.inner.table_id ≡ f.room.inner.get.seat.inner.table_id)
      × (g.room.inner.get.seat.inner.me ≡ f.room.inner.get.seat.inner.me)
      × (g.room.inner.get.slot ≡ f.room.inner.get.slot)
      × (g.room.inner.get.spare ≡ f.room.inner.get.spare))
      ⊎ ((k ≡ h) × (h.live ≢ code))

-- a side is lacking by status 3 if there is none, by status 5 if there is another one, and by
-- status 12 if its call was cut off
abbrev pub LacksShow : Type 0
LacksShow = (live : ℕ) → (LacksSide live 3 → live ≡ 0) × (LacksSide live 5 → (live ≢ 0) × (live ≢ 255))
    × (LacksSide live 12 → live ≡ 255)
