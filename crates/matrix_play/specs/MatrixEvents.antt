-- The matrix and its events. Cell (i, j) is written by process i and read by process j; an operation of process i reads
-- cell (j, i) for each other j, rising, chooses at the last one, and then writes cell (i, j) for each other j, rising.
-- The idea of a matrix with tags is credited to P. Vitányi and B. Awerbuch, FOCS 1986; the rules are this project's
-- own.
use Rattle.std.specs.Prelude.{◌≡◌, ℕ, ◌+◌, ◌-◌, ◌*◌, ◌≤◌, List, length, replicate, slice_get, slice_set, Option, None}
use Rattle.std.specs.Prelude.{Some, nat_lt, nat_eq}
use Rattle.std.specs.Prelude.{if◌then◌else◌}
use Rattle.history_core.specs.declared.wish.Wish.{Wish}
use Rattle.matrix_core.specs.declared.stamp.Stamped.{Stamped}
use Rattle.matrix_core.specs.declared.progress.Progress.{Progress}
use Rattle.matrix_core.specs.Lines.{other, cell_place, after_read, after_write, first_record, opening_line}
use Rattle.matrix_play.specs.declared.matrix.MatrixStage.{MatrixStage}
use Rattle.matrix_play.specs.declared.matrix.MatrixStage.TheVariants.{Got, Put, Done}

-- the records of all cells, and the progress of each process
pub record Matrix (R : Type 0) : Type 0 where
  pub limit : ℕ
  pub cells : List (Stamped R)
  pub lines : List (Progress R)

module _ {R : Type 0} where
  abbrev pub size : Matrix R → ℕ
  size m = length m.lines

  abbrev pub cell_of : Matrix R → ℕ → ℕ → Option (Stamped R)
  cell_of m i j = slice_get m.cells (cell_place (size m) i j)

  -- 2 to 16 processes, each inside an operation or before one, with a cell for each two
  pub record IsMatrix (m : Matrix R) : Type 0 where
    pub at_least : 2 ≤ size m
    pub at_most : size m ≤ 16
    pub cells : length m.cells ≡ size m * size m
    pub inside : (i : ℕ) (line : Progress R) → slice_get m.lines i ≡ Some line → line.done + 3 ≤ 2 * size m

  abbrev pub opening_matrix : ℕ → ℕ → R → Matrix R
  opening_matrix n limit opening = record {
    limit = limit;
    cells = replicate (n * n) (first_record opening);
    lines = replicate n (opening_line opening);
  }

  -- process i reads the next cell of its column
  abbrev pub reads_next : Matrix R → ℕ → Wish R → Progress R → Option (Stamped R) → Matrix R
  reads_next m i wish line None = m
  reads_next m i wish line (Some answer) =
      record m { lines = slice_set m.lines i (after_read (size m) m.limit i wish line answer) }

  -- process i writes its own record to the next cell of its row
  abbrev pub writes_next : Matrix R → ℕ → Progress R → Matrix R
  writes_next m i line = record m {
    cells = slice_set m.cells (cell_place (size m) i (other i (line.done + 1 - size m))) line.own;
    lines = slice_set m.lines i (after_write (size m) line);
  }

  abbrev pub accessed : Matrix R → ℕ → Wish R → Option (Progress R) → Matrix R
  accessed m i wish None = m
  accessed m i wish (Some line) = if nat_lt (line.done + 1) (size m)
      then reads_next m i wish line (cell_of m (other i line.done) i)
      else writes_next m i line

  -- an event: the next access of process i
  abbrev pub after_access : Matrix R → ℕ → Wish R → Matrix R
  after_access m i wish = accessed m i wish (slice_get m.lines i)

  abbrev pub told : ℕ → ℕ → Option (Progress R) → MatrixStage R
  told n i None = Put 0
  told n i (Some line) = if nat_lt (line.done + 1) n
      then Got (other i line.done)
      else (if nat_eq (line.done + 3) (2 * n) then Done line.outcome else Put (other i (line.done + 1 - n)))

  -- what that event is
  abbrev pub stage_of : Matrix R → ℕ → MatrixStage R
  stage_of m i = told (size m) i (slice_get m.lines i)
