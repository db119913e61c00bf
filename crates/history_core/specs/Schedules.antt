-- What a schedule says of the history that plays it: which operations it has, with their intervals. A schedule names an
-- actor for each step, and for each actor what its operations are to do. Positions of steps are counted from 0 through
-- the whole schedule. Schedules, terms and shape are this project's own.
use Rattle.std.specs.Prelude.{◌≡◌, ℕ, ◌+◌, ◌-◌, ◌*◌, ◌/◌, ◌<◌, ◌≤◌, List, [], ◌∷◌, ◌++◌, length, take}
use Rattle.std.specs.Prelude.{slice_get, nat_eq, if◌then◌else◌}
use Rattle.std.specs.Prelude.{Option, None, Some, ◌⊎◌}
use Rattle.std.specs.List.{count_by}
use Rattle.std.specs.Option.{option_and_then}
use Rattle.history_core.specs.declared.history.Op.{Op}
use Rattle.history_core.specs.declared.history.Term.{Term}
use Rattle.history_core.specs.declared.history.Kind.TheVariants.{Write as WriteKind, Read as ReadKind}
use Rattle.history_core.specs.declared.history.Kind.TheVariants.{Refused as RefusedKind}
use Rattle.history_core.specs.declared.wish.Wish.{Wish}
use Rattle.history_core.specs.declared.wish.Wish.TheVariants.{Write, Read}

-- the accesses of one operation: of a cell, of a matrix of n processes, of a composed board of n processes
abbrev pub cell_accesses : ℕ
cell_accesses = 5

abbrev pub matrix_accesses : ℕ → ℕ
matrix_accesses n = 2 * (n - 1)

abbrev pub board_accesses : ℕ → ℕ
board_accesses n = 10 * (n - 1)

-- the greatest limit of a term
abbrev pub max_limit : ℕ
max_limit = 18446744073709551614

-- one term of a schedule: its limit, the accesses of each of its operations, what each actor is to do, and the actor of
-- each step
pub record Span (R : Type 0) : Type 0 where
  pub limit : ℕ
  pub accesses : ℕ
  pub plans : List (List (Wish R))
  pub steps : List ℕ

-- how many of these steps are an actor's
abbrev pub steps_of : ℕ → List ℕ → ℕ
steps_of who steps = count_by (λ s. nat_eq s who) steps

-- the positions of an actor's steps, where the first of these steps has the position `at`
abbrev pub positions : ℕ → ℕ → List ℕ → List ℕ
positions at who [] = []
positions at who (s ∷ steps) = if nat_eq s who then at ∷ positions (at + 1) who steps else positions (at + 1) who steps

module _ {R : Type 0} where
  -- what operation k of an actor is to do
  abbrev pub planned : Span R → ℕ → ℕ → Option (Wish R)
  planned span who k = option_and_then (λ plan. slice_get plan k) (slice_get span.plans who)

  -- the position of an actor's step number `step`, counted from 0 within the term
  abbrev pub step_at : ℕ → Span R → ℕ → ℕ → Option ℕ
  step_at at span who step = slice_get (positions at who span.steps) step

  -- the position of access number `access` of operation k of an actor
  abbrev pub access_at : ℕ → Span R → ℕ → ℕ → ℕ → Option ℕ
  access_at at span who k access = step_at at span who (k * span.accesses + access)

  -- an operation does what was planned: a write may be refused, and a read's answer is free
  abbrev pub Follows : Option (Wish R) → Op R → Type 0
  Follows None op = ⊥
  Follows (Some (Write item)) op = ((op.kind ≡ WriteKind) × (op.item ≡ Some item)) ⊎ (op.kind ≡ RefusedKind)
  Follows (Some Read) op = op.kind ≡ ReadKind

  -- operation k of its actor, as the term that begins at the position `at` has it
  pub record IsOperation (at : ℕ) (span : Span R) (k : ℕ) (op : Op R) : Type 0 where
    pub begins : access_at at span op.who k 0 ≡ Some op.starts
    pub finishes : access_at at span op.who k (span.accesses - 1) ≡ op.ends
    pub follows : Follows (planned span op.who k) op

  -- the operations of one term: each is one of the schedule's, each of the schedule's that begins is there, and they
  -- stand in order of beginning
  pub record IsPlayed (at : ℕ) (span : Span R) (ops : List (Op R)) : Type 0 where
    pub each : (p : ℕ) (op : Op R) → slice_get ops p ≡ Some op → (k : ℕ) × IsOperation at span k op
    pub all : (who k begin : ℕ) → access_at at span who k 0 ≡ Some begin →
        (p : ℕ) × (op : Op R) × (slice_get ops p ≡ Some op) × (op.who ≡ who) × (op.starts ≡ begin)
    pub rising : (p q : ℕ) (a b : Op R) → slice_get ops p ≡ Some a → slice_get ops q ≡ Some b → p < q →
        a.starts < b.starts

  -- the shape of a history whose first term begins at the position `at` and whose first operation has the place
  -- `place`: the steps of each term are counted apart, and positions and places go on
  abbrev pub HasShapeFrom : ℕ → ℕ → List (Span R) → List Term → List (Op R) → Type 0
  HasShapeFrom at place [] terms ops = (terms ≡ []) × (ops ≡ [])
  HasShapeFrom at place (span ∷ spans) terms ops =
      (mine : List (Op R)) × (others : List (Op R)) × (later : List Term)
      × (ops ≡ mine ++ others) × (terms ≡ record { first = place; limit = span.limit } ∷ later)
      × IsPlayed at span mine
      × HasShapeFrom (at + length span.steps) (place + length mine) spans later others

  -- shape
  abbrev pub HasShape : List (Span R) → List Term → List (Op R) → Type 0
  HasShape spans terms ops = HasShapeFrom 0 0 spans terms ops

  -- how many steps an actor has before a term's step number `step`
  abbrev pub steps_before : Span R → ℕ → ℕ → ℕ
  steps_before span step who = steps_of who (take step span.steps)

  -- a term's step number `step` is of an actor that has no operation left
  abbrev pub Overruns : Span R → ℕ → Type 0
  Overruns span step =
      (who : ℕ) × (slice_get span.steps step ≡ Some who)
      × (planned span who (steps_before span step who / span.accesses) ≡ None)

  -- the step at this position of the schedule is of an actor that has no operation left in that term
  abbrev pub OverrunsAt : List (Span R) → ℕ → Type 0
  OverrunsAt [] position = ⊥
  OverrunsAt (span ∷ spans) position =
      Overruns span position ⊎ ((length span.steps ≤ position) × OverrunsAt spans (position - length span.steps))

  -- it is the first such step
  abbrev pub IsFirstOverrun : List (Span R) → ℕ → Type 0
  IsFirstOverrun spans position = OverrunsAt spans position × ((p : ℕ) → p < position → ¬ OverrunsAt spans p)

  -- each step has an operation
  abbrev pub HasOperations : List (Span R) → Type 0
  HasOperations spans = (p : ℕ) → ¬ OverrunsAt spans p
