-- What the steps of both players make of operations, and the greatest record of a term's end. Only the players go by
-- this; what a report is, its own words say. This is this project's own.
use Rattle.std.specs.Prelude.{ℕ, zero, suc, List, [], ◌∷◌, None, Some}
use Rattle.history_core.specs.declared.history.Op.{Op}
use Rattle.history_core.specs.declared.history.Term.{Term}
use Rattle.history_core.specs.declared.history.Kind.TheVariants.{Write as WriteKind, Read as ReadKind}
use Rattle.history_core.specs.declared.history.Kind.TheVariants.{Refused as RefusedKind}
use Rattle.history_core.specs.declared.wish.Wish.{Wish}
use Rattle.history_core.specs.declared.wish.Wish.TheVariants.{Write, Read}
use Rattle.matrix_core.specs.declared.stamp.Stamped.{Stamped}
use Rattle.matrix_core.specs.Stamps.{greater}
use Rattle.matrix_core.specs.declared.progress.Progress.{Progress}
use Rattle.matrix_core.specs.declared.progress.Outcome.{Outcome}
use Rattle.matrix_core.specs.declared.progress.Outcome.TheVariants.{Written, Seen, Ended}

-- the element at a place becomes its value under f
abbrev pub changed : {X : Type 0} → (X → X) → ℕ → List X → List X
changed f place [] = []
changed f zero (x ∷ xs) = f x ∷ xs
changed f (suc place) (x ∷ xs) = x ∷ changed f place xs

-- the term that begins at this place
abbrev pub one_term : ℕ → ℕ → List Term
one_term first limit = record { first = first; limit = limit } ∷ []

module _ {R : Type 0} where
  -- an operation that begins at the position `now`
  abbrev pub begun_op : ℕ → ℕ → Wish R → Op R
  begun_op who now (Write item) = record { who = who; kind = WriteKind; starts = now; ends = None; item = Some item }
  begun_op who now Read = record { who = who; kind = ReadKind; starts = now; ends = None; item = None }

  -- what its choice makes of an operation: a write that is refused has no item until it ends
  abbrev pub chose : Outcome R → Op R → Op R
  chose (Written stamp) op = op
  chose (Seen answer) op = op
  chose (Ended last) op = record op { kind = RefusedKind; item = None }

  -- what its last access makes of it, at the position `now`
  abbrev pub ended : ℕ → Outcome R → Op R → Op R
  ended now (Written stamp) op = record op { ends = Some now }
  ended now (Seen answer) op = record op { ends = Some now; item = Some answer.item }
  ended now (Ended last) op = record op { ends = Some now; item = Some last.item }

  -- the greatest record that a process holds; of equal stamps that of the smaller process number
  abbrev pub greatest_own : Stamped R → List (Progress R) → Stamped R
  greatest_own least [] = least
  greatest_own least (line ∷ lines) = greatest_own (greater least line.own) lines
