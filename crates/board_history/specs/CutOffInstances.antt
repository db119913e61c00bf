-- Three runs so far in which process 0 stops for ever in a write of 7, or process 1 in a read, each with its history
-- and its order, worked out by hand. Process 1 is cut off in its column, with one of two steps of its read made;
-- process 0 in its row, after one of two cells; and process 0 inside a cell whose accesses take three steps, as those
-- of a four-slot cell: it has filled a slot, and has made neither of the two stores.
use Rattle.std.specs.Prelude.{ℕ, zero, suc, List, [], ◌∷◌, Option, Some, None, true, false}
use Rattle.history_core.specs.declared.history.Kind.TheVariants.{Write, Read}
use Rattle.history_core.specs.declared.history.Op.{Op}
use Rattle.matrix_core.specs.declared.stamp.Stamp.{Stamp}
use Rattle.matrix_core.specs.declared.stamp.Stamped.{Stamped}
use Rattle.matrix_core.specs.Listings.{IsInOrder}
use Rattle.board_history.specs.BoardRuns.{Answered, Called, Did, Written}
use Rattle.board_history.specs.HistoriesSoFar.{IsHistorySoFar}
use Rattle.board_history.specs.Instances.{seven, telling, zero_first}
use Rattle.board_history.specs.RunsSoFar.{IsBoardRunSoFar}

-- worked out: a run so far of processes that open with 0 and have the limit 5, its history and its order
pub record IsWorkedOut (width n : ℕ) (steps : List ℕ) (did : ℕ → Did ℕ) (ops : List (Op ℕ))
    (stamps : List (Option Stamp)) (order : List ℕ) : Type 0 where
  pub run : IsBoardRunSoFar width n 5 zero_first steps did
  pub history : IsHistorySoFar width n did ops stamps
  pub by_stamp : IsInOrder ops stamps order

-- a register that was written never, or once; and one that was read never, or once
abbrev pub unwritten : Written ℕ
unwritten = record { items = []; begins = []; ends = [] }

abbrev pub written : Stamped ℕ → ℕ → List ℕ → Written ℕ
written item begin ends = record { items = item ∷ []; begins = begin ∷ []; ends = ends }

abbrev pub unread : Answered ℕ
unread = record { items = []; numbers = []; begins = []; ends = [] }

abbrev pub answered : Stamped ℕ → ℕ → ℕ → ℕ → Answered ℕ
answered answer number begin end = record {
  items = answer ∷ [];
  numbers = number ∷ [];
  begins = begin ∷ [];
  ends = end ∷ [];
}

-- the write of 7 and a read, from and to these times; an end that hasn't come is given as 0, and nobody looks at it
abbrev pub write_call : ℕ → Called ℕ
write_call end = telling Write zero_first seven 1 end

abbrev pub read_call : Stamped ℕ → ℕ → ℕ → Called ℕ
read_call answer begin end = telling Read answer answer begin end

-- as operations
abbrev pub write_op : Option ℕ → Op ℕ
write_op end = record { who = 0; kind = Write; starts = 1; ends = end; item = Some 7 }

abbrev pub read_op : ℕ → Option ℕ → Option ℕ → Op ℕ
read_op begin end item = record { who = 1; kind = Read; starts = begin; ends = end; item = item }

-- *In its column*: process 0 has written 7 from 1 to 4, and process 1 has begun to read at 5. It hasn't chosen
abbrev pub column_run : ℕ → Did ℕ
column_run zero = record {
  times = 1 ∷ 2 ∷ 3 ∷ 4 ∷ [];
  calls = write_call 4 ∷ [];
  writes = λ j. written seven 3 (4 ∷ []);
  reads = λ j. answered zero_first 0 1 2;
}
column_run (suc i) = record {
  times = 5 ∷ [];
  calls = [];
  writes = λ j. unwritten;
  reads = λ j. record { items = []; numbers = []; begins = 5 ∷ []; ends = [] };
}

abbrev pub column_steps : List ℕ
column_steps = 0 ∷ 0 ∷ 0 ∷ 0 ∷ 1 ∷ []

abbrev pub column_ops : List (Op ℕ)
column_ops = write_op (Some 4) ∷ read_op 5 None None ∷ []

abbrev pub column_stamps : List (Option Stamp)
column_stamps = Some seven.stamp ∷ None ∷ []

-- *In its row*: of three processes, process 0 has read at 1 and 2, and has told process 1 at 3, but not process 2.
-- Process 1 reads from 4 to 7, and is answered this at 4
abbrev pub row_writes : ℕ → Written ℕ
row_writes (suc zero) = written seven 3 (3 ∷ [])
row_writes j = unwritten

abbrev pub row_reads : ℕ → Answered ℕ
row_reads (suc zero) = answered zero_first 0 1 1
row_reads j = answered zero_first 0 2 2

abbrev pub told_writes : Stamped ℕ → ℕ → Written ℕ
told_writes chosen zero = written chosen 6 (6 ∷ [])
told_writes chosen (suc j) = written chosen 7 (7 ∷ [])

abbrev pub told_reads : Stamped ℕ → ℕ → ℕ → Answered ℕ
told_reads answer number zero = answered answer number 4 4
told_reads answer number (suc j) = answered zero_first 0 5 5

-- process 1 may have been answered something else
abbrev pub row_run_of : Stamped ℕ → ℕ → ℕ → Did ℕ
row_run_of answer number zero = record {
  times = 1 ∷ 2 ∷ 3 ∷ [];
  calls = write_call 0 ∷ [];
  writes = row_writes;
  reads = row_reads;
}
row_run_of answer number (suc zero) = record {
  times = 4 ∷ 5 ∷ 6 ∷ 7 ∷ [];
  calls = read_call answer 4 7 ∷ [];
  writes = told_writes answer;
  reads = told_reads answer number;
}
row_run_of answer number (suc (suc i)) = record { times = []; calls = []; writes = λ j. unwritten; reads = λ j. unread }

abbrev pub row_run : ℕ → Did ℕ
row_run = row_run_of seven 1

-- process 1 reads from 4 to 6, and keeps what it was answered to itself, as if it had found at 6 that it was told
abbrev pub kept_run : ℕ → Did ℕ
kept_run (suc zero) = record {
  times = 4 ∷ 5 ∷ 6 ∷ [];
  calls = record { begin = 4; end = 6; kind = Read; seen = seven; chosen = seven; tells = false; finds = true } ∷ [];
  writes = λ j. unwritten;
  reads = told_reads seven 1;
}
kept_run i = row_run i

abbrev pub kept_steps : List ℕ
kept_steps = 0 ∷ 0 ∷ 0 ∷ 1 ∷ 1 ∷ 1 ∷ []

abbrev pub row_steps : List ℕ
row_steps = 0 ∷ 0 ∷ 0 ∷ 1 ∷ 1 ∷ 1 ∷ 1 ∷ []

abbrev pub row_ops : List (Op ℕ)
row_ops = write_op None ∷ read_op 4 (Some 7) (Some 7) ∷ []

abbrev pub row_stamps : List (Option Stamp)
row_stamps = Some seven.stamp ∷ Some seven.stamp ∷ []

-- *Inside a cell*: process 0 has read from 1 to 3, and has made one of three steps of its write to process 1, at 4.
-- Process 1 reads from 5 to 10, and is answered the opening
abbrev pub cell_run : ℕ → Did ℕ
cell_run zero = record {
  times = 1 ∷ 2 ∷ 3 ∷ 4 ∷ [];
  calls = write_call 0 ∷ [];
  writes = λ j. written seven 4 [];
  reads = λ j. answered zero_first 0 1 3;
}
cell_run (suc i) = record {
  times = 5 ∷ 6 ∷ 7 ∷ 8 ∷ 9 ∷ 10 ∷ [];
  calls = read_call zero_first 5 10 ∷ [];
  writes = λ j. written zero_first 8 (10 ∷ []);
  reads = λ j. answered zero_first 0 5 7;
}

abbrev pub cell_steps : List ℕ
cell_steps = 0 ∷ 0 ∷ 0 ∷ 0 ∷ 1 ∷ 1 ∷ 1 ∷ 1 ∷ 1 ∷ 1 ∷ []

abbrev pub cell_ops : List (Op ℕ)
cell_ops = write_op None ∷ read_op 5 (Some 10) (Some 0) ∷ []

abbrev pub cell_stamps : List (Option Stamp)
cell_stamps = Some seven.stamp ∷ Some zero_first.stamp ∷ []
