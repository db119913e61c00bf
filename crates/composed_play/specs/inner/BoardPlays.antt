-- A composed board while a term of it is played: the board, and what its steps have told of the operations. Only the
-- player's loop goes by this; what a report is, BoardReports says. This is this project's own.
use Rattle.std.specs.Prelude.{◌≡◌, ℕ, ◌+◌, ◌-◌, ◌*◌, ◌/◌, ◌<◌, ◌≤◌, List, [], ◌∷◌, ◌++◌, length, replicate, slice_get}
use Rattle.std.specs.Prelude.{slice_set}
use Rattle.std.specs.Prelude.{slice_index_or, Option, None, Some, IsSome, nat_eq, if◌then◌else◌}
use Rattle.std.specs.List.{fold}
use Rattle.std.specs.Option.{option_and_then}
use Rattle.history_core.specs.declared.history.Op.{Op}
use Rattle.history_core.specs.declared.wish.Wish.{Wish}
use Rattle.history_core.specs.Schedules.{board_accesses}
use Rattle.matrix_core.specs.declared.stamp.Stamp.{Stamp}
use Rattle.matrix_core.specs.declared.progress.Progress.{Progress}
use Rattle.matrix_core.specs.declared.schedule.MatrixTerm.{MatrixTerm}
use Rattle.composed_play.specs.declared.board_term.BoardSeat.{BoardSeat}
use Rattle.matrix_core.specs.Lines.{first_record}
use Rattle.matrix_core.specs.inner.Operations.{begun_op, changed, chose, ended, greatest_own}
use Rattle.matrix_core.specs.Runs.{max_position}
use Rattle.composed_play.specs.BoardEvents.{after_event, Board, board_size, opening_board, slot_of}

-- where a process is before its first operation
abbrev pub first_board_seat : BoardSeat
first_board_seat = record { place = 0; operation = 0; made = 0 }

-- the number of the step of an operation that chooses, among n processes
abbrev pub choosing : ℕ → ℕ
choosing n = (n - 2) * 5 + 4

-- the slot that a step chose, where it chose one, is that of its access
abbrev pub noted : ℕ → ℕ → Option ℕ → List (List (Option ℕ)) → List (List (Option ℕ))
noted place access None slots = slots
noted place access (Some slot) slots = changed (λ row. slice_set row access (Some slot)) place slots

-- the seat after a step: an operation that ends leaves it to the next one
abbrev pub next_seat : ℕ → BoardSeat → BoardSeat
next_seat n seat = if nat_eq (seat.made + 1) (board_accesses n)
    then record { place = seat.place; operation = seat.operation + 1; made = 0 }
    else record { place = seat.place; operation = seat.operation; made = seat.made + 1 }

-- the board, the position of the next step, the operations so far with the stamps and slots that they chose, and the
-- seat of each process
pub record BoardPlaying (R : Type 0) : Type 0 where
  pub board : Board R
  pub now : ℕ
  pub seats : List BoardSeat
  pub ops : List (Op R)
  pub stamps : List (Option Stamp)
  pub slots : List (List (Option ℕ))

module _ {R : Type 0} where
  abbrev pub board_seat : BoardPlaying R → ℕ → BoardSeat
  board_seat play who = slice_index_or play.seats who first_board_seat

  abbrev pub opening_board_play : ℕ → ℕ → R → R → ℕ → BoardPlaying R
  opening_board_play n limit opening noise at =
      record {
        board = opening_board n limit opening noise;
        now = at;
        seats = replicate n first_board_seat;
        ops = [];
        stamps = [];
        slots = [];
      }

  -- a process begins its operation
  abbrev pub opened : BoardPlaying R → ℕ → Wish R → BoardPlaying R
  opened play who wish = record play {
    seats = slice_set play.seats who
        (record { place = length play.ops; operation = (board_seat play who).operation; made = 0 });
    ops =
        play.ops ++ begun_op who play.now wish ∷ [];
    stamps = play.stamps ++ None ∷ [];
    slots = play.slots ++ replicate (2 * (length play.seats - 1)) None ∷ [];
  }

  abbrev pub opened_first : BoardPlaying R → ℕ → Wish R → BoardPlaying R
  opened_first play who wish = if nat_eq (board_seat play who).made 0 then opened play who wish else play

  -- what a step with this number in its operation makes of the operations, where the progress after it is `line`: one
  -- of n processes
  abbrev pub told_ops : ℕ → BoardSeat → ℕ → Progress R → List (Op R) → List (Op R)
  told_ops n seat now line ops = if nat_eq seat.made (choosing n)
      then changed (chose line.outcome) seat.place ops
      else (if nat_eq (seat.made + 1) (board_accesses n) then changed (ended now line.outcome) seat.place ops else ops)

  abbrev pub told_stamps : ℕ → BoardSeat → Progress R → List (Option Stamp) → List (Option Stamp)
  told_stamps n seat line stamps = if nat_eq seat.made (choosing n)
      then changed (λ stamp. Some line.own.stamp) seat.place stamps
      else stamps

  -- a step of a process whose operation has its place
  abbrev pub moved : BoardPlaying R → ℕ → Wish R → Option (Progress R) → BoardPlaying R
  moved play who wish None = play
  moved play who wish (Some line) = record {
    board = after_event play.board who wish;
    now = play.now + 1;
    seats = slice_set play.seats who (next_seat (length play.seats) (board_seat play who));
    ops = told_ops (length play.seats) (board_seat play who) play.now line play.ops;
    stamps = told_stamps (length play.seats) (board_seat play who) line play.stamps;
    slots = noted (board_seat play who).place ((board_seat play who).made / 5) (slot_of play.board who) play.slots;
  }

  abbrev pub happened : BoardPlaying R → ℕ → Wish R → BoardPlaying R
  happened play who wish = moved play who wish (slice_get (after_event play.board who wish).lines who)

  -- what the operation of a process is to do
  abbrev pub wish_now : List (List (Wish R)) → BoardPlaying R → ℕ → Option (Wish R)
  wish_now plans play who =
      option_and_then (λ plan. slice_get plan (board_seat play who).operation) (slice_get plans who)

  abbrev pub plays : BoardPlaying R → ℕ → Option (Wish R) → BoardPlaying R
  plays play who None = play
  plays play who (Some wish) = happened (opened_first play who wish) who wish

  -- a step of process `who`
  abbrev pub after_board_step : List (List (Wish R)) → BoardPlaying R → ℕ → BoardPlaying R
  after_board_step plans play who = plays play who (wish_now plans play who)

  -- a process whose operation has its place can make its step
  pub record CanHappen (play : BoardPlaying R) (who : ℕ) : Type 0 where
    pub processes : length play.seats ≡ board_size play.board
    pub inside : who < length play.seats
    pub stamps : length play.stamps ≡ length play.ops
    pub slots : length play.slots ≡ length play.ops
    pub wide : (p : ℕ) (row : List (Option ℕ)) → slice_get play.slots p ≡ Some row →
        length row ≡ 2 * (length play.seats - 1)
    pub room : play.now < max_position
    pub count : (board_seat play who).operation < max_position
    pub made : (board_seat play who).made < board_accesses (length play.seats)
    pub place : (board_seat play who).place < length play.ops

  -- a process can make its next step
  pub record CanStep (plans : List (List (Wish R))) (play : BoardPlaying R) (who : ℕ) : Type 0 where
    pub at_least : 2 ≤ length play.seats
    pub at_most : length play.seats ≤ 16
    pub processes : length play.seats ≡ board_size play.board
    pub inside : who < length play.seats
    pub stamps : length play.stamps ≡ length play.ops
    pub slots : length play.slots ≡ length play.ops
    pub wide : (p : ℕ) (row : List (Option ℕ)) → slice_get play.slots p ≡ Some row →
        length row ≡ 2 * (length play.seats - 1)
    pub room : play.now < max_position
    pub count : (board_seat play who).operation < max_position
    pub made : (board_seat play who).made < board_accesses (length play.seats)
    pub planned : IsSome (wish_now plans play who)
    pub place : 0 < (board_seat play who).made → (board_seat play who).place < length play.ops

  -- the run of one term that begins at the position `at`, with its opening record
  abbrev pub board_play_of : ℕ → R → R → MatrixTerm R → BoardPlaying R
  board_play_of at opening noise term =
      fold (after_board_step term.plans) (opening_board_play (length term.plans) term.limit opening noise at) term.steps

  -- the greatest record that a process holds; of equal stamps that of the smaller process number
  abbrev pub next_board_opening : R → BoardPlaying R → R
  next_board_opening opening play = (greatest_own (first_record opening) play.board.lines).item
