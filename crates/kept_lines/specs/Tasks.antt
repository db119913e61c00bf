-- Tasks that do one operation after the other, and the last operation of each (this project's own).
use Rattle.std.specs.Prelude.{◌≡◌, ℕ, ◌<◌, ◌≤◌, List, slice_get, Option, None, Some, IsSomeAnd}
use Rattle.std.specs.Ordering.{nat_cmp}
use Rattle.std.specs.BTreeMap.{get}
use Rattle.history_core.specs.declared.history.Op.{Op}
use Rattle.history_core.specs.Orders.{Precedes}
use Rattle.kept_lines.specs.declared.turns.Last.{Last}
use Rattle.kept_lines.specs.declared.turns.Turns.{Turns}
use Rattle.kept_lines.specs.declared.turns.TurnError.{TurnError}
use Rattle.kept_lines.specs.declared.turns.TurnError.TheVariants.{Overlaps, NoMemory}

-- of two operations of one task the one that the log has first has ended before the other begins
abbrev pub TakeTurns : {R : Type 0} → List (Op R) → Type 0
TakeTurns {R} log =
    (p q : ℕ) (a b : Op R) → slice_get log p ≡ Some a → slice_get log q ≡ Some b → a.who ≡ b.who → p < q → Precedes a b

-- the last operation of a task: where it has ended, each of the task has ended by then
pub record IsLastOf {R : Type 0} (log : List (Op R)) (who : ℕ) (last : Last) : Type 0 where
  pub op : Op R
  pub at : slice_get log last.place ≡ Some op
  pub of_task : op.who ≡ who
  pub ends : op.ends ≡ last.end
  pub ended : (p m : ℕ) (a : Op R) → slice_get log p ≡ Some a → a.who ≡ who → last.end ≡ Some m →
      IsSomeAnd a.ends (λ end. end ≤ m)

abbrev pub IsLast : {R : Type 0} → List (Op R) → ℕ → Option Last → Type 0
IsLast {R} log who None = (p : ℕ) (a : Op R) → slice_get log p ≡ Some a → ¬ (a.who ≡ who)
IsLast log who (Some last) = IsLastOf log who last

-- the last operation of each task is known, and the tasks take turns
pub record KnowsTasks {R : Type 0} (log : List (Op R)) (turns : Turns) : Type 0 where
  pub turn : TakeTurns log
  pub last : (who : ℕ) → IsLast log who (get nat_cmp turns.last who)

-- an operation at this place is of the same task, and hasn't ended before the next begins
pub record Overlap {R : Type 0} (log : List (Op R)) (next : Op R) (first : ℕ) : Type 0 where
  pub op : Op R
  pub at : slice_get log first ≡ Some op
  pub of_task : op.who ≡ next.who
  pub apart : ¬ Precedes op next

abbrev pub IsTurnError : {R : Type 0} → List (Op R) → Op R → TurnError → Type 0
IsTurnError log next (Overlaps first) = Overlap log next first
IsTurnError log next NoMemory = Unit {0}
