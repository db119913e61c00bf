-- The events of a composed board: the next step of a process is the next event of the cell whose access stands next for
-- it. The rules of the matrix count where that access ends. This is this project's own, over the events of the
-- four-slot cell.
use Rattle.std.specs.Prelude.{◌≡◌, ℕ, ◌+◌, ◌-◌, ◌*◌, ◌≤◌, List, length, replicate, slice_get, slice_set, Option, None}
use Rattle.std.specs.Prelude.{Some, nat_lt, nat_eq}
use Rattle.std.specs.Prelude.{if◌then◌else◌}
use Rattle.history_core.specs.declared.wish.Wish.{Wish}
use Rattle.four_slot_core.specs.declared.state.State.{State}
use Rattle.four_slot_core.specs.declared.state.Stage.{Stage}
use Rattle.four_slot_core.specs.declared.state.Stage.TheVariants.{W1, W2, W3, W4, W5}
use Rattle.four_slot_core.specs.declared.state.ReadStage.{ReadStage}
use Rattle.four_slot_core.specs.declared.state.ReadStage.TheVariants.{R1, R2, R3, R4, R5}
use Rattle.four_slot_core.specs.Events.{after_read as after_read_event, after_write as after_write_event, next_read}
use Rattle.four_slot_core.specs.Events.{next_write}
use Rattle.four_slot_core.specs.Events.{opening_state, slot_number}
use Rattle.matrix_core.specs.declared.stamp.Stamped.{Stamped}
use Rattle.matrix_core.specs.declared.progress.Progress.{Progress}
use Rattle.matrix_core.specs.Lines.{after_write, begun, cell_place, chosen, first_record, gathered, opening_line, other}
use Rattle.composed_play.specs.Boards.{noise_record}

-- the states of all cells, row after row, and the progress of each process
pub record Board (R : Type 0) : Type 0 where
  pub limit : ℕ
  pub cells : List (State (Stamped R))
  pub lines : List (Progress R)

module _ {R : Type 0} where
  abbrev pub board_size : Board R → ℕ
  board_size b = length b.lines

  -- what an event of a read of its column makes of the progress of process i: the wish counts at the first, the answer
  -- at the last
  abbrev pub heard : ℕ → ℕ → ℕ → Wish R → ReadStage (Stamped R) → Progress R → Progress R
  heard n limit i wish R1 line = begun wish line
  heard n limit i wish R2 line = line
  heard n limit i wish R3 line = line
  heard n limit i wish R4 line = line
  heard n limit i wish (R5 answer) line =
      if nat_eq (line.done + 2) n then chosen limit i (gathered answer line) else gathered answer line

  -- and what an event of a write of its row makes of it
  abbrev pub posted : ℕ → Stage → Progress R → Progress R
  posted n W1 line = line
  posted n W2 line = line
  posted n W3 line = line
  posted n W4 line = line
  posted n W5 line = after_write n line

  abbrev pub hears : Board R → ℕ → ℕ → Wish R → Progress R → Option (State (Stamped R)) → Board R
  hears b i place wish line None = b
  hears b i place wish line (Some s) =
      record b {
        cells = slice_set b.cells place (after_read_event s.reader s);
        lines = slice_set b.lines i (heard (board_size b) b.limit i wish (next_read s.reader s) line);
      }

  abbrev pub posts : Board R → ℕ → ℕ → Progress R → Option (State (Stamped R)) → Board R
  posts b i place line None = b
  posts b i place line (Some s) =
      record b {
        cells = slice_set b.cells place (after_write_event s.writer line.own s);
        lines = slice_set b.lines i (posted (board_size b) (next_write s.writer) line);
      }

  abbrev pub moved_on : Board R → ℕ → Wish R → Option (Progress R) → Board R
  moved_on b i wish None = b
  moved_on b i wish (Some line) =
      if nat_lt (line.done + 1) (board_size b)
      then hears b i (cell_place (board_size b) (other i line.done) i) wish line
      (slice_get b.cells (cell_place (board_size b) (other i line.done) i))
      else posts b i (cell_place (board_size b) i (other i (line.done + 1 - board_size b))) line
      (slice_get b.cells (cell_place (board_size b) i (other i (line.done + 1 - board_size b))))

  -- an event: the next step of process i
  abbrev pub after_event : Board R → ℕ → Wish R → Board R
  after_event b i wish = moved_on b i wish (slice_get b.lines i)

  -- the slot that an event of a cell chooses, which then has this state: R3 and W1 choose one
  abbrev pub read_slot : ReadStage (Stamped R) → State (Stamped R) → Option ℕ
  read_slot R1 s = None
  read_slot R2 s = None
  read_slot R3 s = Some (slot_number s.read)
  read_slot R4 s = None
  read_slot (R5 answer) s = None

  abbrev pub write_slot : Stage → State (Stamped R) → Option ℕ
  write_slot W1 s = Some (slot_number s.write)
  write_slot W2 s = None
  write_slot W3 s = None
  write_slot W4 s = None
  write_slot W5 s = None

  abbrev pub heard_slot : Option (State (Stamped R)) → Option ℕ
  heard_slot None = None
  heard_slot (Some s) = read_slot (next_read s.reader s) (after_read_event s.reader s)

  abbrev pub posted_slot : Stamped R → Option (State (Stamped R)) → Option ℕ
  posted_slot own None = None
  posted_slot own (Some s) = write_slot (next_write s.writer) (after_write_event s.writer own s)

  abbrev pub slot_by : Board R → ℕ → Option (Progress R) → Option ℕ
  slot_by b i None = None
  slot_by b i (Some line) =
      if nat_lt (line.done + 1) (board_size b)
      then heard_slot (slice_get b.cells (cell_place (board_size b) (other i line.done) i))
      else posted_slot line.own
      (slice_get b.cells (cell_place (board_size b) i (other i (line.done + 1 - board_size b))))

  -- the slot that the next step of process i chooses, if it chooses one
  abbrev pub slot_of : Board R → ℕ → Option ℕ
  slot_of b i = slot_by b i (slice_get b.lines i)

  abbrev pub opening_board : ℕ → ℕ → R → R → Board R
  opening_board n limit opening noise = record {
    limit = limit;
    cells = replicate (n * n) (opening_state (first_record opening) (noise_record noise));
    lines = replicate n (opening_line opening);
  }

  -- 2 to 16 processes, each inside an operation or before one, with a cell for each two
  pub record IsBoard (b : Board R) : Type 0 where
    pub at_least : 2 ≤ board_size b
    pub at_most : board_size b ≤ 16
    pub cells : length b.cells ≡ board_size b * board_size b
    pub inside : (i : ℕ) (line : Progress R) → slice_get b.lines i ≡ Some line → line.done + 3 ≤ 2 * board_size b
