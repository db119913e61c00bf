-- What a running cell promises of all its calls, in one place (atomic orders are L. Lamport's, On Interprocess
-- Communication, Parts I and II, Distributed Computing 1, 1986; receipts are this project's own).
use Rattle.std.specs.Prelude.{◌≡◌, ◌+◌, ◌≤◌, [], ◌∷◌, ◌++◌}
use Rattle.cell_contract.specs.declared.cell.Calls.{Ghosts as CellWords}
use Rattle.cell_contract.specs.CallsSoFar.{AreCallsSoFar, HaveOneOrder}
use Rattle.cell_contract.specs.Intervals.{HaveEnded, IsHeard, IsNextCall, known_as}
use Rattle.cell_contract.specs.Running.{last_or}

module _ {C T P G R : Type 0} (words : CellWords C T P G R) (fits : T → Type 0) (rises : T → T → Type 0) where
  -- *The theorem of a cell*, of a write, a receipt of it and a read, with passes that had made any calls
  -- before, and of the cell's end
  pub record CellTheorem (cell : C) (put : P) (get : G) (item answer : T) : Type 0 where
    -- the passes after the write and when the reader had learnt of it, and the reader's after its read
    pub wrote : P
    pub learnt : G
    pub read : G
    -- the write added the record, in a call of at most three accesses
    pub written : words.written wrote ≡ words.written put ++ item ∷ []
    pub write_timed : IsNextCall (words.put_times put) (words.put_times wrote)
    pub write_accesses : words.put_accesses wrote ≤ words.put_accesses put + 3
    -- the read added its answer, in a call of at most three accesses that began after the write had ended
    pub answers : words.answers read ≡ words.answers get ++ answer ∷ []
    pub heard : IsHeard (words.get_times get) (words.get_times learnt) (words.put_times wrote).clock
    pub read_timed : IsNextCall (words.get_times learnt) (words.get_times read)
    pub read_accesses : words.get_accesses read ≤ words.get_accesses get + 3
    -- the answer obeys the record's law, and by it may stand after the answer before and after the record written
    pub lawful : fits answer × rises (last_or (words.opening cell) (words.answers get)) answer × rises item answer
    -- when the read ends all calls so far have one order: those of the writer up to this write, whatever
    -- it began since, and all reads
    pub so_far : AreCallsSoFar fits rises (words.opening cell)
        (known_as (words.written wrote) (words.put_times wrote) ∷ []) (words.answers read) (words.get_times read)
    -- and at the end they are these, all of which have ended
    pub order : HaveOneOrder (words.opening cell) (words.written wrote) (words.put_times wrote) (words.answers read)
        (words.get_times read)
    pub ended : HaveEnded (words.put_times wrote)
