-- A matrix while a term of it is played: what each step makes of it, of its operations and of their stamps. Only the
-- player's loop goes by this; what a report is, Listings says. This is this project's own.
use Rattle.std.specs.Prelude.{◌≡◌, ℕ, ◌+◌, ◌*◌, ◌<◌, List, [], ◌∷◌, ◌++◌, length, replicate, slice_get, slice_set}
use Rattle.std.specs.Prelude.{slice_index_or, Option}
use Rattle.std.specs.Prelude.{None, Some, IsSome, nat_eq, if◌then◌else◌}
use Rattle.std.specs.List.{fold}
use Rattle.std.specs.Option.{option_and_then}
use Rattle.history_core.specs.declared.history.Op.{Op}
use Rattle.history_core.specs.declared.history.Term.{Term}
use Rattle.history_core.specs.declared.wish.Wish.{Wish}
use Rattle.history_core.specs.declared.wish.Wish.TheVariants.{Read}
use Rattle.matrix_core.specs.declared.stamp.Stamp.{Stamp}
use Rattle.matrix_core.specs.declared.progress.Progress.{Progress}
use Rattle.matrix_core.specs.declared.progress.Outcome.{Outcome}
use Rattle.matrix_core.specs.declared.schedule.MatrixTerm.{MatrixTerm}
use Rattle.matrix_core.specs.Lines.{first_record}
use Rattle.matrix_core.specs.Runs.{max_position}
use Rattle.matrix_core.specs.inner.Operations.{begun_op, changed, chose, ended, greatest_own}
use Rattle.matrix_play.specs.declared.matrix_term.Seat.{Seat}
use Rattle.matrix_play.specs.MatrixEvents.{Matrix, IsMatrix, size, after_access, opening_matrix}

-- where a process is before its first operation
abbrev pub first_seat : Seat
first_seat = record { place = 0; begun = 0 }

-- the matrix, the position of the next step, the operations so far with the stamps that they chose, and for each
-- process the place of its newest operation and the number of operations that it has begun
pub record MatrixPlaying (R : Type 0) : Type 0 where
  pub matrix : Matrix R
  pub now : ℕ
  pub seats : List Seat
  pub ops : List (Op R)
  pub stamps : List (Option Stamp)

module _ {R : Type 0} where
  abbrev pub seat_of : MatrixPlaying R → ℕ → Seat
  seat_of run who = slice_index_or run.seats who first_seat

  abbrev pub place_of : MatrixPlaying R → ℕ → ℕ
  place_of run who = (seat_of run who).place

  abbrev pub opening_matrix_play : ℕ → ℕ → R → ℕ → MatrixPlaying R
  opening_matrix_play n limit opening at = record {
    matrix = opening_matrix n limit opening;
    now = at;
    seats = replicate n first_seat;
    ops = [];
    stamps = [];
  }

  -- a process begins an operation
  abbrev pub began : MatrixPlaying R → ℕ → Wish R → MatrixPlaying R
  began run who wish = record run {
    seats = slice_set run.seats who (record { place = length run.ops; begun = (seat_of run who).begun + 1 });
    ops = run.ops ++ begun_op who run.now wish ∷ [];
    stamps = run.stamps ++ None ∷ [];
  }

  -- the access that chooses, after which the process's progress is `line`
  abbrev pub chooses : MatrixPlaying R → ℕ → Option (Progress R) → MatrixPlaying R
  chooses run who None = run
  chooses run who (Some line) = record run {
    ops = changed (chose line.outcome) (place_of run who) run.ops;
    stamps = changed (λ stamp. Some line.own.stamp) (place_of run who) run.stamps;
  }

  -- the last access
  abbrev pub finishes : MatrixPlaying R → ℕ → ℕ → Outcome R → MatrixPlaying R
  finishes run who now outcome = record run { ops = changed (ended now outcome) (place_of run who) run.ops }

  abbrev pub moved : MatrixPlaying R → ℕ → Wish R → MatrixPlaying R
  moved run who wish = record run { matrix = after_access run.matrix who wish; now = run.now + 1 }

  -- an access of a process whose progress before it is `line`
  abbrev pub accesses : MatrixPlaying R → ℕ → Wish R → Progress R → MatrixPlaying R
  accesses run who wish line = if nat_eq (line.done + 2) (size run.matrix)
      then chooses (moved run who wish) who (slice_get (after_access run.matrix who wish).lines who)
      else (if nat_eq (line.done + 3) (2 * size run.matrix) then finishes (moved run who wish) who run.now line.outcome
      else moved run who wish)

  abbrev pub begins_with : MatrixPlaying R → ℕ → Progress R → Option (Wish R) → MatrixPlaying R
  begins_with run who line None = run
  begins_with run who line (Some wish) = accesses (began run who wish) who wish line

  -- what process `who` is to do next
  abbrev pub next_wish : List (List (Wish R)) → MatrixPlaying R → ℕ → Option (Wish R)
  next_wish plans run who = option_and_then (λ plan. slice_get plan (seat_of run who).begun) (slice_get plans who)

  abbrev pub stepped : List (List (Wish R)) → MatrixPlaying R → ℕ → Option (Progress R) → MatrixPlaying R
  stepped plans run who None = run
  stepped plans run who (Some line) = if nat_eq line.done 0
      then begins_with run who line (next_wish plans run who)
      else accesses run who Read line

  -- a step of process `who`
  abbrev pub after_step : List (List (Wish R)) → MatrixPlaying R → ℕ → MatrixPlaying R
  after_step plans run who = stepped plans run who (slice_get run.matrix.lines who)

  -- a process can make an access: its operation has its place
  pub record CanAccess (run : MatrixPlaying R) (who : ℕ) : Type 0 where
    pub matrix : IsMatrix run.matrix
    pub processes : length run.seats ≡ size run.matrix
    pub inside : who < length run.seats
    pub place : place_of run who < length run.ops
    pub stamps : length run.stamps ≡ length run.ops
    pub room : run.now < max_position

  -- a process can make its next step: where it begins an operation its plan has one
  pub record IsReady (plans : List (List (Wish R))) (run : MatrixPlaying R) (who : ℕ) : Type 0 where
    pub processes : length run.seats ≡ size run.matrix
    pub inside : who < length run.seats
    pub stamps : length run.stamps ≡ length run.ops
    pub room : run.now < max_position
    pub count : (seat_of run who).begun < max_position
    pub next : (line : Progress R) → slice_get run.matrix.lines who ≡ Some line → line.done ≡ 0 →
        IsSome (next_wish plans run who)
    pub place : (line : Progress R) → slice_get run.matrix.lines who ≡ Some line → 0 < line.done →
        place_of run who < length run.ops

  -- the run of one term that begins at the position `at`, with its opening record
  abbrev pub matrix_play_of : ℕ → R → MatrixTerm R → MatrixPlaying R
  matrix_play_of at opening term =
      fold (after_step term.plans) (opening_matrix_play (length term.plans) term.limit opening at) term.steps

  abbrev pub next_opening : R → MatrixPlaying R → R
  next_opening opening run = (greatest_own (first_record opening) run.matrix.lines).item

  -- the runs of the terms: each later one opens with the greatest record of the one before, and positions go on
  abbrev pub matrix_plays_of : ℕ → R → List (MatrixTerm R) → List (MatrixPlaying R)
  matrix_plays_of at opening [] = []
  matrix_plays_of at opening (term ∷ terms) = matrix_play_of at opening term ∷ matrix_plays_of (at + length term.steps)
      (next_opening opening (matrix_play_of at opening term)) terms

  abbrev pub ops_of : List (MatrixPlaying R) → List (Op R)
  ops_of [] = []
  ops_of (run ∷ runs) = run.ops ++ ops_of runs

  abbrev pub stamps_of : List (MatrixPlaying R) → List (Option Stamp)
  stamps_of [] = []
  stamps_of (run ∷ runs) = run.stamps ++ stamps_of runs

  -- the terms of the history, from the place `place` on
  abbrev pub terms_of : ℕ → List (MatrixTerm R) → List (MatrixPlaying R) → List Term
  terms_of place [] runs = []
  terms_of place (term ∷ terms) [] = []
  terms_of place (term ∷ terms) (run ∷ runs) =
      record { first = place; limit = term.limit } ∷ terms_of (place + length run.ops) terms runs
