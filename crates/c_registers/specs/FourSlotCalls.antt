-- What the calls do to the sides of a four-slot cell (this project's definitions).
use Rattle.std.specs.Prelude.{◌≡◌, ◌≢◌, ◌≤◌, ◌+◌, [], ◌∷◌, ◌++◌}
use Rattle.std.specs.Arc.{arc_value}
use Rattle.cell_contract.specs.Intervals.{IsNextAnswer, IsNextCall, no_times, none_known}
use Rattle.cell_contract.specs.Running.{IsAnswer}
use Rattle.cell_contract.specs.CallsSoFar.{AreCallsSoFar}
use Rattle.cell_four_slot.specs.Words.{opening_of, written_by, answers_of, told_to, writer_accesses, reader_accesses}
use Rattle.cell_four_slot.specs.Words.{pair_said, pair_shown, put_times, get_times, numbers_of, known_to, heard_by}
use Rattle.c_registers.specs.Numbers.{Always, IsNoEarlier, numbered}
use Rattle.c_registers.specs.declared.numbered.Numbered.{Numbered}
use Rattle.c_registers.specs.declared.four_slot.FourSlotWriter.{FourSlotWriter}
use Rattle.c_registers.specs.declared.four_slot.FourSlotReader.{FourSlotReader}

module _ {W : Type 0} where
  -- the two sides are of one new cell, which opened with the record under the number 0
  pub record IsMade (p : FourSlotWriter W) (g : FourSlotReader W) (w : W) : Type 0 where
    pub one : arc_value p.cell ≡ arc_value g.cell
    pub opening : opening_of (arc_value p.cell) ≡ numbered 0 w
    pub unwritten : written_by p.put ≡ []
    pub unread : answers_of g.get ≡ []
    pub untold : told_to g.get ≡ []
    pub timeless : (put_times p.put ≡ no_times) × (get_times g.get ≡ no_times)
    pub unknown : (numbers_of g.get ≡ []) × (known_to g.get ≡ none_known)

  -- the writing side before and after a write of the record: it is written under the next number, and
  -- nothing else, in an interval after the write before. It takes two control accesses where `latest` has
  -- the pair already, and else three
  pub record HasWritten (p q : FourSlotWriter W) (w : W) : Type 0 where
    pub same : q.cell ≡ p.cell
    pub next : q.number ≡ p.number + 1
    pub written : written_by q.put ≡ written_by p.put ++ numbered q.number w ∷ []
    pub accesses : writer_accesses q.put ≤ writer_accesses p.put + 3
    pub quiet : pair_shown q.put ≡ pair_shown p.put → writer_accesses q.put ≡ writer_accesses p.put + 2
    pub moved : pair_shown q.put ≢ pair_shown p.put → writer_accesses q.put ≡ writer_accesses p.put + 3
    pub timed : IsNextCall (put_times p.put) (put_times q.put)

  -- the reading side before and after a read: the answer follows the opening, the answer before and what was told. It
  -- comes by two control accesses where `reading` has the pair already, and else by three. It was written: it is the
  -- record with its place of the writes known, whole, and with these all answers are atomic by their intervals
  pub record HasRead (g h : FourSlotReader W) (a : Numbered W) : Type 0 where
    pub same : h.cell ≡ g.cell
    pub answers : answers_of h.get ≡ answers_of g.get ++ a ∷ []
    pub told : told_to h.get ≡ told_to g.get
    pub accesses : reader_accesses h.get ≤ reader_accesses g.get + 3
    pub quiet : pair_said h.get ≡ pair_said g.get → reader_accesses h.get ≡ reader_accesses g.get + 2
    pub moved : pair_said h.get ≢ pair_said g.get → reader_accesses h.get ≡ reader_accesses g.get + 3
    pub running : IsAnswer Always IsNoEarlier (opening_of (arc_value g.cell)) (answers_of g.get) (told_to g.get) a
    pub timed : IsNextCall (get_times g.get) (get_times h.get)
    pub written : IsNextAnswer (opening_of (arc_value g.cell)) (known_to g.get)
        (known_to h.get) (numbers_of g.get) (numbers_of h.get)
        (answers_of h.get) (get_times h.get) a
    pub so_far : AreCallsSoFar Always IsNoEarlier (opening_of (arc_value g.cell)) (heard_by h.get)
        (answers_of h.get) (get_times h.get)
