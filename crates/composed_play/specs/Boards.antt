-- The composed board: a matrix whose cells are four-slot cells (H. Simpson, Four-slot fully asynchronous communication
-- mechanism, IEE Proceedings E, 1990), each of which makes one event at each step that is its. Which steps those are,
-- and with them the accesses of each cell, the schedule says by itself. The composition is this project's own.
use Rattle.std.specs.Prelude.{◌≡◌, ◌≢◌, ℕ, ◌+◌, ◌-◌, ◌*◌, ◌/◌, ◌%◌, ◌<◌, List, [], ◌∷◌, ◌++◌, length, slice_get, Option}
use Rattle.std.specs.Prelude.{None, Some}
use Rattle.std.specs.Prelude.{Bool, ◌&&◌, nat_eq, nat_le, nat_lt, if◌then◌else◌}
use Rattle.history_core.specs.declared.history.Op.{Op}
use Rattle.history_core.specs.declared.history.Kind.TheVariants.{Write, Refused}
use Rattle.history_core.specs.Schedules.{access_at, IsOperation, Span, steps_of}
use Rattle.four_slot_core.specs.declared.schedule.Turn.{Turn}
use Rattle.four_slot_core.specs.declared.schedule.Turn.TheVariants.{Writer, Reader}
use Rattle.four_slot_core.specs.Accesses.{Accesses}
use Rattle.four_slot_core.specs.Traces.{Moment, moments_of, source_record, Trace, trace}
use Rattle.matrix_core.specs.declared.stamp.Stamp.{Stamp}
use Rattle.matrix_core.specs.declared.stamp.Stamped.{Stamped}
use Rattle.matrix_core.specs.Lines.{first_record, other}
use Rattle.matrix_core.specs.Choices.{Choice, ChoosesByKind}
use Rattle.matrix_core.specs.Stamps.{greatest}
use Rattle.matrix_core.specs.ByAccesses.{choice_at, chooses_at}

-- a step: whose it is, and its number in the operation that it belongs to
pub record Event : Type 0 where
  pub who : ℕ
  pub number : ℕ

-- the step of process `who` after these
abbrev pub event_after : ℕ → List ℕ → ℕ → Event
event_after accesses done who = record { who = who; number = steps_of who done % accesses }

-- steps as events, where those of `done` come before them
abbrev pub events_after : ℕ → List ℕ → List ℕ → List Event
events_after accesses done [] = []
events_after accesses done (who ∷ steps) =
    event_after accesses done who ∷ events_after accesses (done ++ who ∷ []) steps

-- of n processes, whether an event belongs to the write of process i to the cell that process j reads, and whether to
-- the read of process j of the cell that process i writes
abbrev pub is_write_of : ℕ → ℕ → ℕ → Event → Bool
is_write_of n i j e = nat_eq e.who i && (nat_le (n - 1) (e.number / 5) && nat_eq (other i (e.number / 5 - (n - 1))) j)

abbrev pub is_read_of : ℕ → ℕ → ℕ → Event → Bool
is_read_of n i j e = nat_eq e.who j && (nat_lt (e.number / 5) (n - 1) && nat_eq (other j (e.number / 5)) i)

-- whose step of cell (i, j) an event is
abbrev pub turn_in : ℕ → ℕ → ℕ → Event → Option Turn
turn_in n i j e = if is_write_of n i j e then Some Writer else (if is_read_of n i j e then Some Reader else None)

-- the noise record of a board, which has the greatest tag
abbrev pub noise_record : {R : Type 0} → R → Stamped R
noise_record noise = record { stamp = record { tag = 18446744073709551615; writer = 0 }; item = noise }

module _ {R : Type 0} where
  -- the steps of cell (i, j), at their positions
  abbrev pub cell_moments : ℕ → Span R → ℕ → ℕ → List Moment
  cell_moments at span i j = moments_of (turn_in (length span.plans) i j) at (events_after span.accesses [] span.steps)

  -- cell (i, j) after these steps, where write k of it takes what operation k of process i chose
  abbrev pub cell_trace : ℕ → Span R → R → R → (ℕ → ℕ → Stamped R) → ℕ → ℕ → Trace (Stamped R)
  cell_trace at span opening noise chosen i j =
      trace (first_record opening) (noise_record noise) (chosen i) (cell_moments at span i j)

  -- the accesses of cell (i, j) by the schedule, where `slot who k access` is the slot of this access of operation k of
  -- a process: the writer's is number `write` of its row, the reader's number `read` of its column
  abbrev pub row_accesses : ℕ → Span R → (ℕ → ℕ → ℕ → Option ℕ) → ℕ → ℕ → Accesses
  row_accesses at span slot i write = record {
    at = λ k e. access_at at span i k ((length span.plans - 1 + write) * 5 + e);
    slot = λ k. slot i k (length span.plans - 1 + write);
  }

  abbrev pub column_accesses : ℕ → Span R → (ℕ → ℕ → ℕ → Option ℕ) → ℕ → ℕ → Accesses
  column_accesses at span slot j read = record {
    at = λ k e. access_at at span j k (read * 5 + e);
    slot = λ k. slot j k read;
  }

  -- what operation k saw: the answer of each cell of its column, and the newest record of its own process; and it chose
  -- by kind
  pub record SeesCells (at : ℕ) (span : Span R) (opening noise : R) (chosen : ℕ → ℕ → Stamped R) (c : Choice R)
      (k : ℕ) : Type 0 where
    pub answers : List (Stamped R)
    pub each : length answers + 1 ≡ length span.plans
    pub answered : (read : ℕ) (answer : Stamped R) → slice_get answers read ≡ Some answer
        → slice_get (cell_trace at span opening noise chosen (other c.who read) c.who).answers k ≡ Some answer
    pub by_kind : let seen = greatest (source_record (first_record opening) (chosen c.who) k) answers in
        ChoosesByKind span.limit c c.kind seen.stamp seen.item

  -- the run of one term of a composed board: the stamps and answers of its operations, and the slots of their accesses
  pub record IsBoardRun (at : ℕ) (span : Span R) (opening noise : R) (ops : List (Op R)) (stamps : List (Option Stamp))
      (slot : ℕ → ℕ → ℕ → Option ℕ) (chosen : ℕ → ℕ → Stamped R) : Type 0 where
    pub long : length stamps ≡ length ops
    pub sees : (p k t : ℕ) (op : Op R) → slice_get ops p ≡ Some op → IsOperation at span k op →
        chooses_at at span 5 op.who k ≡ Some t
        → SeesCells at span opening noise chosen (choice_at chosen p k op) k
    pub told : (p k t : ℕ) (op : Op R) → slice_get ops p ≡ Some op → IsOperation at span k op →
        chooses_at at span 5 op.who k ≡ Some t →
        slice_get stamps p ≡ Some (Some (chosen op.who k).stamp)
    pub untold : (p k : ℕ) (op : Op R) → slice_get ops p ≡ Some op → IsOperation at span k op →
        chooses_at at span 5 op.who k ≡ None →
        slice_get stamps p ≡ Some None
    pub written : (p k t : ℕ) (op : Op R) → slice_get ops p ≡ Some op → IsOperation at span k op →
        chooses_at at span 5 op.who k ≡ Some t →
        op.kind ≡ Write → op.item ≡ Some (chosen op.who k).item
    pub ended : (p k end : ℕ) (op : Op R) → slice_get ops p ≡ Some op → IsOperation at span k op → op.ends ≡ Some end →
        op.item ≡ Some (chosen op.who k).item
    pub unchosen : (p k : ℕ) (op : Op R) → slice_get ops p ≡ Some op → IsOperation at span k op →
        chooses_at at span 5 op.who k ≡ None → op.kind ≢ Refused
    pub unfinished : (p : ℕ) (op : Op R) → slice_get ops p ≡ Some op → op.ends ≡ None → op.kind ≢ Write → op.item ≡ None
    pub row_slots : (i write k : ℕ) →
        slot i k (length span.plans - 1 + write)
        ≡ slice_get (cell_trace at span opening noise chosen i (other i write)).write_slots k
    pub column_slots : (j read k : ℕ) → read + 1 < length span.plans →
        slot j k read ≡ slice_get (cell_trace at span opening noise chosen (other j read) j).read_slots k
