-- The progress of a process of a matrix, whatever its cells are: an operation of process i reads cell (j, i) for each
-- other j, rising, chooses at the last one, and then writes cell (i, j) for each other j, rising. The idea of a matrix
-- with tags is credited to P. Vitányi and B. Awerbuch, FOCS 1986; the rules are this project's own.
use Rattle.std.specs.Prelude.{ℕ, ◌+◌, ◌*◌, Option, None, Some, nat_lt, nat_eq, if◌then◌else◌}
pub use Rattle.history_core.specs.Others.{other}
use Rattle.history_core.specs.declared.wish.Wish.{Wish}
use Rattle.history_core.specs.declared.wish.Wish.TheVariants.{Write, Read}
use Rattle.matrix_core.specs.declared.stamp.Stamped.{Stamped}
use Rattle.matrix_core.specs.Stamps.{first_stamp, greater}
use Rattle.matrix_core.specs.declared.progress.Progress.{Progress}
use Rattle.matrix_core.specs.declared.progress.Outcome.TheVariants.{Written, Seen, Ended}

-- the place of cell (i, j) in a table of n columns, row after row
abbrev pub cell_place : ℕ → ℕ → ℕ → ℕ
cell_place n i j = i * n + j

module _ {R : Type 0} where
  -- what an operation that saw `seen` chooses: a read chooses what it saw, a write its record with the next tag where
  -- the tag that it saw is below the limit, and any other write what it saw
  abbrev pub choice : ℕ → ℕ → Wish R → Progress R → Progress R
  choice limit i Read line = record line { own = line.seen; outcome = Seen line.seen }
  choice limit i (Write item) line = if nat_lt line.seen.stamp.tag limit
      then record line {
        own = record { stamp = record { tag = line.seen.stamp.tag + 1; writer = i }; item = item };
        outcome = Written (record { tag = line.seen.stamp.tag + 1; writer = i });
      }
      else record line { own = line.seen; outcome = Ended line.seen }

  abbrev pub chosen : ℕ → ℕ → Progress R → Progress R
  chosen limit i line = choice limit i line.wish line

  -- the wish counts at the first access, where the own record is the greatest so far
  abbrev pub begun : Wish R → Progress R → Progress R
  begun wish line = if nat_eq line.done 0 then record line { wish = wish; seen = line.own } else line

  abbrev pub gathered : Stamped R → Progress R → Progress R
  gathered answer line = record line { done = line.done + 1; seen = greater line.seen answer }

  -- after a read of a cell in a matrix of n processes; the last one chooses
  abbrev pub after_read : ℕ → ℕ → ℕ → Wish R → Progress R → Stamped R → Progress R
  after_read n limit i wish line answer = if nat_eq (line.done + 2) n
      then chosen limit i (gathered answer (begun wish line))
      else gathered answer (begun wish line)

  -- after a write of a cell; the last one ends the operation
  abbrev pub after_write : ℕ → Progress R → Progress R
  after_write n line = record line { done = if nat_eq (line.done + 3) (2 * n) then 0 else line.done + 1 }

  abbrev pub first_record : R → Stamped R
  first_record opening = record { stamp = first_stamp; item = opening }

  abbrev pub opening_line : R → Progress R
  opening_line opening = record {
    done = 0;
    wish = Read;
    seen = first_record opening;
    own = first_record opening;
    outcome = Seen (first_record opening);
  }

  -- a process's own record, or the opening
  abbrev pub own_or : R → Option (Progress R) → Stamped R
  own_or opening None = first_record opening
  own_or opening (Some line) = line.own
