-- Schedules of one cell, and the run of one (this project's own).
use Rattle.std.specs.Prelude.{ℕ, List, [], ◌∷◌, map, replicate, get_or}
use Rattle.history_core.specs.declared.wish.PlayError.{PlayError}
use Rattle.history_core.specs.declared.wish.PlayError.TheVariants.{NoMemory, TooManySteps}
use Rattle.history_core.specs.declared.wish.Wish.TheVariants.{Write, Read}
use Rattle.history_core.specs.Schedules.{Span, cell_accesses, max_limit, HasOperations, IsFirstOverrun}
use Rattle.four_slot_core.specs.declared.schedule.CellSchedule.{CellSchedule}
use Rattle.four_slot_core.specs.declared.schedule.Turn.{Turn}
use Rattle.four_slot_core.specs.declared.schedule.Turn.TheVariants.{Writer, Reader}
use Rattle.four_slot_core.specs.Traces.{Trace, moments_from, trace}

-- the writer is actor 0, the reader actor 1
abbrev pub actor : Turn → ℕ
actor Writer = 0
actor Reader = 1

-- the schedule as one term: the writer makes these writes, the reader so many reads, each in five steps
abbrev pub span_of : {R : Type 0} → List Turn → List R → ℕ → Span R
span_of steps writes reads =
    record {
      limit = max_limit;
      accesses = cell_accesses;
      plans = map Write writes ∷ (replicate reads Read ∷ []);
      steps = map actor steps;
    }

abbrev pub cell_span : {R : Type 0} → CellSchedule R → Span R
cell_span s = span_of s.steps s.writes s.reads

-- why a schedule isn't played: a step without an operation, the first one; or want of
-- memory, where each step has its own
abbrev pub IsRefusal : {R : Type 0} → Span R → PlayError → Type 0
IsRefusal span NoMemory = HasOperations (span ∷ [])
IsRefusal span (TooManySteps position) = IsFirstOverrun (span ∷ []) position

-- write k of a list of writes; no step of a schedule that is played belongs to a write past its end
abbrev pub item_of : {R : Type 0} → R → List R → ℕ → R
item_of opening writes k = get_or writes k opening

-- the run of a schedule: the cell's trace through its steps, at the positions 0, 1, ..
abbrev pub run : {R : Type 0} → R → R → List R → List Turn → Trace R
run opening noise writes steps = trace opening noise (item_of opening writes) (moments_from 0 steps)
