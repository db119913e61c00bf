-- What the calls do to the sides of a triple buffer (this project's definitions).
use Rattle.std.specs.Prelude.{◌≡◌, ◌≢◌, ◌+◌, ◌≤◌, [], ◌∷◌, ◌++◌}
use Rattle.std.specs.Arc.{arc_value}
use Rattle.cell_contract.specs.Intervals.{IsNextAnswer, IsNextCall, no_times, none_known}
use Rattle.cell_contract.specs.Running.{IsAnswer}
use Rattle.cell_contract.specs.CallsSoFar.{AreCallsSoFar}
use Rattle.cell_triple.specs.Words.{opening_of, written_by, answers_of, told_to, swaps_of_put, loads_of, swaps_of}
use Rattle.cell_triple.specs.Words.{put_times, get_times, numbers_of, known_to, heard_by, at_hand_of}
use Rattle.cell_triple.specs.Lent.{IsSame, placed_by, put_with}
use Rattle.c_registers.specs.Numbers.{Always, IsNoEarlier, numbered}
use Rattle.c_registers.specs.declared.numbered.Numbered.{Numbered}
use Rattle.c_registers.specs.declared.triple.TripleFiller.{TripleFiller}
use Rattle.c_registers.specs.declared.triple.TripleWriter.{TripleWriter}
use Rattle.c_registers.specs.declared.triple.TripleEnds.{TripleEnds}
use Rattle.c_registers.specs.declared.triple.TripleReader.{TripleReader}

module _ {W : Type 0} where
  -- the two sides are of one new cell, which opened with the record under the number 0
  pub record IsMade (p : TripleWriter W) (g : TripleReader W) (w : W) : Type 0 where
    pub one : arc_value p.room.inner.cell ≡ arc_value g.room.inner.cell
    pub opening : opening_of (arc_value p.room.inner.cell) ≡ numbered 0 w
    pub unwritten : written_by p.room.inner.put ≡ []
    pub unread : answers_of g.room.inner.get ≡ []
    pub untold : told_to g.room.inner.get ≡ []
    pub timeless : (put_times p.room.inner.put ≡ no_times) × (get_times g.room.inner.get ≡ no_times)
    pub unknown : (numbers_of g.room.inner.get ≡ []) × (known_to g.room.inner.get ≡ none_known)

  -- the writing side's pass before and after a write of the record: it is written, and nothing else, by at most three
  -- control accesses, in an interval after the write before
  pub record HasWrittenBy (p q : TripleFiller W) (a : Numbered W) : Type 0 where
    pub same : q.cell ≡ p.cell
    pub written : written_by q.put ≡ written_by p.put ++ a ∷ []
    pub accesses : swaps_of_put q.put ≤ swaps_of_put p.put + 3
    pub timed : IsNextCall (put_times p.put) (put_times q.put)

  -- the writing side before and after a write of the words: they are written under the next number
  pub record HasWritten (p q : TripleWriter W) (w : W) : Type 0 where
    pub next : q.number ≡ p.number + 1
    pub by : HasWrittenBy p.room.inner q.room.inner (numbered q.number w)

  -- the record in the writing side's slot: until it is written in place, an older one or the opening
  abbrev pub in_slot : TripleWriter W → Numbered W
  in_slot p = placed_by p.room.inner.put

  -- a write of the words in the slot
  abbrev pub HasPublished : TripleWriter W → TripleWriter W → Type 0
  HasPublished p q = HasWritten p q (in_slot p).words

  -- the pass and the writing side with these in their slot, and else as they are
  abbrev pub filler_with : TripleFiller W → Numbered W → TripleFiller W
  filler_with f a = record f { put = put_with f.put a }

  abbrev pub writer_with : TripleWriter W → W → TripleWriter W
  writer_with p w = record p { room = record { inner = filler_with p.room.inner (numbered (in_slot p).number w) } }

  -- the reading side before and after a read: the answer follows the opening, the answer before and what was told, and
  -- comes by at most three control accesses. It was written: it is the record with its place of the writes known,
  -- whole, and with these all answers are atomic by their intervals
  pub record HasReadBy (g h : TripleEnds W) (a : Numbered W) : Type 0 where
    pub same : h.cell ≡ g.cell
    pub at_hand : at_hand_of h.get ≡ a
    pub answers : answers_of h.get ≡ answers_of g.get ++ a ∷ []
    pub told : told_to h.get ≡ told_to g.get
    pub accesses : loads_of h.get + swaps_of h.get ≤ loads_of g.get + swaps_of g.get + 3
    pub running : IsAnswer Always IsNoEarlier (opening_of (arc_value g.cell)) (answers_of g.get) (told_to g.get) a
    pub timed : IsNextCall (get_times g.get) (get_times h.get)
    pub written : IsNextAnswer (opening_of (arc_value g.cell)) (known_to g.get)
        (known_to h.get) (numbers_of g.get) (numbers_of h.get)
        (answers_of h.get) (get_times h.get) a
    pub so_far : AreCallsSoFar Always IsNoEarlier (opening_of (arc_value g.cell)) (heard_by h.get)
        (answers_of h.get) (get_times h.get)

  abbrev pub HasRead : TripleReader W → TripleReader W → Numbered W → Type 0
  HasRead g h a = HasReadBy g.room.inner h.room.inner a

  -- the last answer, or the opening
  abbrev pub at_hand : TripleReader W → Numbered W
  at_hand g = at_hand_of g.room.inner.get

  -- the second reading side is the first one: it has the same cell, knows the same, and holds the
  -- same record in the same slot
  pub record StaysBy (g h : TripleEnds W) : Type 0 where
    pub same : h.cell ≡ g.cell
    pub pass : IsSame g.get h.get

  abbrev pub Stays : TripleReader W → TripleReader W → Type 0
  Stays g h = StaysBy g.room.inner h.room.inner

  -- the same of what may be such a side
  pub data StaysAmong {D : Type 0} (reads : TripleReader W → D) (d d' : D) : Type 0 where
    reader : (g h : TripleReader W) → d ≡ reads g → d' ≡ reads h → Stays g h → StaysAmong reads d d'
    other : ((g : TripleReader W) → d ≢ reads g) → d' ≡ d → StaysAmong reads d d'

  -- what is the first side with these words in its slot
  abbrev pub FilledAmong : {D : Type 0} → (TripleWriter W → D) → D → D → W → Type 0
  FilledAmong writes d d' w = (p : TripleWriter W) × (d ≡ writes p) × (d' ≡ writes (writer_with p w))
