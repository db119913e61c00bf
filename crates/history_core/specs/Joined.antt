-- Parts of a history, one after the other: each counts the places of its operations from 0, and in the whole they go on
-- from those of the parts before it. Parts in turn are this project's own.
use Rattle.std.specs.Prelude.{◌≡◌, ℕ, ◌+◌, ◌<◌, List, [], ◌∷◌, ◌++◌, length, map, slice_get, Some}
use Rattle.history_core.specs.declared.history.Op.{Op}
use Rattle.history_core.specs.declared.history.Term.{Term}
use Rattle.history_core.specs.Orders.{IsAtomicOrder, latest, Precedes, RefusesLawfully}

-- an order, where so many operations stand before those that it lists
abbrev pub order_after : ℕ → List ℕ → List ℕ
order_after count order = map (λ p. count + p) order

-- terms, where so many operations stand before theirs
abbrev pub terms_after : ℕ → List Term → List Term
terms_after count terms = map (λ t. record { first = count + t.first; limit = t.limit }) terms

-- some term begins at the first place, where there is an operation
abbrev pub HasFirstTerm : {R : Type 0} → List Term → List (Op R) → Type 0
HasFirstTerm terms ops = 0 < length ops → (k : ℕ) × (t : Term) × (slice_get terms k ≡ Some t) × (t.first ≡ 0)

-- no operation of the later ones precedes one of the earlier
abbrev pub StaysBehind : {R : Type 0} → List (Op R) → List (Op R) → Type 0
StaysBehind {R} later earlier =
    (p q : ℕ) (a b : Op R) → slice_get earlier p ≡ Some a → slice_get later q ≡ Some b → ¬ Precedes b a

-- the operations of one term, with an order of them and the term's limit
pub record Part (R : Type 0) : Type 0 where
  pub limit : ℕ
  pub ops : List (Op R)
  pub order : List ℕ

module _ {R : Type 0} where
  -- the operations of all parts
  abbrev pub ops_of : List (Part R) → List (Op R)
  ops_of [] = []
  ops_of (part ∷ parts) = part.ops ++ ops_of parts

  -- their orders one after the other, where the first part begins at this place
  abbrev pub order_from : ℕ → List (Part R) → List ℕ
  order_from place [] = []
  order_from place (part ∷ parts) = order_after place part.order ++ order_from (place + length part.ops) parts

  -- and their terms
  abbrev pub terms_from : ℕ → List (Part R) → List Term
  terms_from place [] = []
  terms_from place (part ∷ parts) =
      record { first = place; limit = part.limit } ∷ terms_from (place + length part.ops) parts

  -- each part by itself has an atomic order and refuses lawfully, the first opens with `opening` and each later
  -- one with the latest record of the part before it, `last` is the latest of the last one, and no operation
  -- precedes one of an earlier part
  abbrev pub IsInTurn : (R → R → Type 0) → R → List (Part R) → R → Type 0
  IsInTurn Same opening [] last = opening ≡ last
  IsInTurn Same opening (part ∷ parts) last =
      (next : R)
      × IsAtomicOrder Same opening part.ops part.order
      × RefusesLawfully (record { first = 0; limit = part.limit } ∷ []) part.ops part.order
      × (latest opening part.ops part.order ≡ Some next)
      × StaysBehind (ops_of parts) part.ops
      × IsInTurn Same next parts last
