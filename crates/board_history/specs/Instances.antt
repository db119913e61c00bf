-- Two processes over registers whose accesses take one step: process 0 writes 7 at the times 1 and 2, and process 1
-- reads at 3 and 4. Once it is answered the write, and once the opening, which is older than a write that had
-- ended. And reads that write no row: one that had its own record before the write began, one that has the write and
-- keeps it to itself, and one that finds at 4 that it was told. And, over registers whose accesses take two steps, one
-- that finds this before it is so.
use Rattle.std.specs.Prelude.{Bool, ℕ, zero, suc, List, [], ◌∷◌, true, false}
use Rattle.history_core.specs.declared.history.Kind.{Kind}
use Rattle.history_core.specs.declared.history.Kind.TheVariants.{Write, Read}
use Rattle.matrix_core.specs.declared.stamp.Stamped.{Stamped}
use Rattle.matrix_core.specs.Lines.{first_record}
use Rattle.board_history.specs.BoardRuns.{Called, Did}

abbrev pub zero_first : Stamped ℕ
zero_first = first_record 0

abbrev pub seven : Stamped ℕ
seven = record { stamp = record { tag = 1; writer = 0 }; item = 7 }

-- a call that tells what it chose
abbrev pub telling : Kind → Stamped ℕ → Stamped ℕ → ℕ → ℕ → Called ℕ
telling kind seen chosen begin end =
    record { begin = begin; end = end; kind = kind; seen = seen; chosen = chosen; tells = true; finds = false }

-- a process that made one call: it was answered this record, with this number, at the first of two
-- times, and wrote at the second
abbrev pub one_call : Called ℕ → Stamped ℕ → ℕ → ℕ → ℕ → Did ℕ
one_call call answer number read written = record {
  times = read ∷ written ∷ [];
  calls = call ∷ [];
  writes = λ j. record { items = call.chosen ∷ []; begins = written ∷ []; ends = written ∷ [] };
  reads = λ j. record { items = answer ∷ []; numbers = number ∷ []; begins = read ∷ []; ends = read ∷ [] };
}

abbrev pub two_processes : Did ℕ → ℕ → Did ℕ
two_processes reader zero = one_call (telling Write zero_first seven 1 2) zero_first 0 1 2
two_processes reader (suc i) = reader

abbrev pub reads_seven : Did ℕ
reads_seven = one_call (telling Read seven seven 3 4) seven 1 3 4

abbrev pub reads_opening : ℕ → Did ℕ
reads_opening number = one_call (telling Read zero_first zero_first 3 4) zero_first number 3 4

-- a process that made one read, with these times, and told nobody what it chose; it may have found that it needn't
abbrev pub untold_read : Stamped ℕ → ℕ → ℕ → ℕ → Bool → List ℕ → Did ℕ
untold_read answer number begin end finds times = record {
  times = times;
  calls = record { begin = begin; end = end; kind = Read; seen = answer; chosen = answer; tells = false; finds = finds }
      ∷ [];
  writes = λ j. record { items = []; begins = []; ends = [] };
  reads = λ j. record { items = answer ∷ []; numbers = number ∷ []; begins = begin ∷ []; ends = begin ∷ [] };
}

abbrev pub silent_read : Stamped ℕ → ℕ → ℕ → Did ℕ
silent_read answer number time = untold_read answer number time time false (time ∷ [])

abbrev pub found_read : Stamped ℕ → ℕ → ℕ → ℕ → Did ℕ
found_read answer number read found = untold_read answer number read found true (read ∷ found ∷ [])

-- process 0 writes 7 at the times 2 and 3, after process 1 has read at 1
abbrev pub silent_before : ℕ → Did ℕ
silent_before zero = one_call (telling Write zero_first seven 2 3) zero_first 0 2 3
silent_before (suc i) = silent_read zero_first 0 1

-- process 0 reads from 1 to 2 and writes 7 from 3 to 7, and process 1 reads this from 4 to 5 and finds at 6 that it was
-- told
abbrev pub found_early : ℕ → Did ℕ
found_early zero = record {
  times = 1 ∷ 2 ∷ 3 ∷ 7 ∷ [];
  calls = telling Write zero_first seven 1 7 ∷ [];
  writes = λ j. record { items = seven ∷ []; begins = 3 ∷ []; ends = 7 ∷ [] };
  reads = λ j. record { items = zero_first ∷ []; numbers = 0 ∷ []; begins = 1 ∷ []; ends = 2 ∷ [] };
}
found_early (suc i) = record {
  times = 4 ∷ 5 ∷ 6 ∷ [];
  calls = record { begin = 4; end = 6; kind = Read; seen = seven; chosen = seven; tells = false; finds = true } ∷ [];
  writes = λ j. record { items = []; begins = []; ends = [] };
  reads = λ j. record { items = seven ∷ []; numbers = 1 ∷ []; begins = 4 ∷ []; ends = 5 ∷ [] };
}
