-- A cell that is stepped in any interleaving, at positions that rise: the positions of each side's steps, and what the
-- events have shown so far (this project's own).
use Rattle.std.specs.Prelude.{ℕ, ◌+◌, ◌*◌, ◌≤◌, List, [], ◌∷◌, ◌++◌, length, slice_get, Option, None, Some, zero, suc}
use Rattle.std.specs.List.{fold}
use Rattle.four_slot_core.specs.declared.schedule.Turn.{Turn}
use Rattle.four_slot_core.specs.declared.schedule.Turn.TheVariants.{Writer, Reader}
use Rattle.four_slot_core.specs.declared.state.State.{State}
use Rattle.four_slot_core.specs.declared.state.Stage.{Stage}
use Rattle.four_slot_core.specs.declared.state.Stage.TheVariants.{W5}
use Rattle.four_slot_core.specs.declared.state.ReaderStage.{ReaderStage}
use Rattle.four_slot_core.specs.declared.state.ReaderStage.TheVariants.{R2, R4}
use Rattle.four_slot_core.specs.Events.{after_read, after_write, answer, opening_state, slot_number}
use Rattle.four_slot_core.specs.Accesses.{Accesses}

-- a step and its position
pub record Moment : Type 0 where
  pub at : ℕ
  pub turn : Turn

-- the positions rise, and the first is at least `next`
abbrev pub RisesFrom : ℕ → List Moment → Type 0
RisesFrom next [] = Unit {0}
RisesFrom next (m ∷ ms) = (next ≤ m.at) × RisesFrom (m.at + 1) ms

-- the steps of a schedule, at the positions from n on
abbrev pub moments_from : ℕ → List Turn → List Moment
moments_from n [] = []
moments_from n (turn ∷ turns) = record { at = n; turn = turn } ∷ moments_from (n + 1) turns

abbrev pub moment_at : Option Turn → ℕ → List Moment
moment_at None n = []
moment_at (Some turn) n = record { at = n; turn = turn } ∷ []

-- the steps of one cell among other events, which keep their positions: `turn` says whose step of this cell an event is
abbrev pub moments_of : {E : Type 0} → (E → Option Turn) → ℕ → List E → List Moment
moments_of turn n [] = []
moments_of turn n (e ∷ es) = moment_at (turn e) n ++ moments_of turn (n + 1) es

-- a cell after some steps: the positions of the writer's and of the reader's, the slot of each write since its W1 and
-- of each read since its R3, and the answer of each read that has ended
pub record Trace (R : Type 0) : Type 0 where
  pub cell : State R
  pub writer : List ℕ
  pub reader : List ℕ
  pub write_slots : List ℕ
  pub read_slots : List ℕ
  pub answers : List R

-- W1, which comes after W5, shows the slot of a write
abbrev pub shown_by_write : Stage → List ℕ → ℕ → List ℕ
shown_by_write W5 slots slot = slots ++ slot ∷ []
shown_by_write _ slots slot = slots

-- R3 shows the slot of a read
abbrev pub shown_by_read : ReaderStage → List ℕ → ℕ → List ℕ
shown_by_read R2 slots slot = slots ++ slot ∷ []
shown_by_read _ slots slot = slots

-- R5 shows its answer
abbrev pub answered_by_read : {R : Type 0} → ReaderStage → List R → R → List R
answered_by_read R4 answers x = answers ++ x ∷ []
answered_by_read _ answers x = answers

-- the writer's next event, which takes this item where it is W1
abbrev pub then_writer : {R : Type 0} → ℕ → R → Trace R → Trace R
then_writer at item t =
    record t {
      cell = after_write t.cell.writer item t.cell;
      writer = t.writer ++ at ∷ [];
      write_slots =
          shown_by_write t.cell.writer t.write_slots (slot_number (after_write t.cell.writer item t.cell).write);
    }

-- the reader's next event
abbrev pub then_reader : {R : Type 0} → ℕ → Trace R → Trace R
then_reader at t =
    record t {
      cell = after_read t.cell.reader t.cell;
      reader = t.reader ++ at ∷ [];
      read_slots = shown_by_read t.cell.reader t.read_slots (slot_number (after_read t.cell.reader t.cell).read);
      answers = answered_by_read t.cell.reader t.answers (answer t.cell);
    }

-- one step, where write k takes the item `items k`
abbrev pub then_step : {R : Type 0} → (ℕ → R) → Trace R → Turn → ℕ → Trace R
then_step items t Writer at = then_writer at (items (length t.write_slots)) t
then_step items t Reader at = then_reader at t

abbrev pub trace_start : {R : Type 0} → R → R → Trace R
trace_start opening noise =
    record {
      cell = opening_state opening noise;
      writer = [];
      reader = [];
      write_slots = [];
      read_slots = [];
      answers = [];
    }

abbrev pub trace : {R : Type 0} → R → R → (ℕ → R) → List Moment → Trace R
trace opening noise items moments = fold (λ t m. then_step items t m.turn m.at) (trace_start opening noise) moments

-- each side's accesses: its steps from 5k to 5k + 4 are the events of access k
abbrev pub writes_of : {R : Type 0} → Trace R → Accesses
writes_of t = record { at = λ k e. slice_get t.writer (k * 5 + e); slot = λ k. slice_get t.write_slots k }

abbrev pub reads_of : {R : Type 0} → Trace R → Accesses
reads_of t = record { at = λ m e. slice_get t.reader (m * 5 + e); slot = λ m. slice_get t.read_slots m }

-- the record with this number: the opening, or the item of the write with it
abbrev pub source_record : {R : Type 0} → R → (ℕ → R) → ℕ → R
source_record opening items zero = opening
source_record opening items (suc k) = items k
