-- The lawful orders of a log of an object: its linearizations, after M. Herlihy and J. Wing, Linearizability:
-- A Correctness Condition for Concurrent Objects, ACM TOPLAS 12, 1990. An order is a list of places in the
-- log; an unfinished operation may stand in it or not, as there. An operation that ended and may have done
-- nothing is this project's own.
use Rattle.std.specs.Prelude.{◌≡◌, ℕ, ◌<◌, ◌≤◌, Bool, true, false, ◌&&◌, not, List, [], ◌∷◌, slice_get}
use Rattle.std.specs.Prelude.{Option, Some, is_some, IsSomeAnd}
use Rattle.history_core.specs.Orders.{times_of}
use Rattle.object_core.specs.declared.operation.Operation.{Operation}

-- a is finished, and ended before b began
abbrev pub Precedes : {W : Type 0} → Operation W → Operation W → Type 0
Precedes a b = IsSomeAnd a.ends (λ end. end < b.starts)

-- an operation that is sure to have taken effect: it is finished, and did something
abbrev pub is_due : {W : Type 0} → Operation W → Bool
is_due o = is_some o.ends && not o.maybe

-- how often an operation may stand in an order: one that is due once, any other at most once
abbrev pub MayStand : Bool → ℕ → Type 0
MayStand true times = times ≡ 1
MayStand false times = times ≤ 1

module _ {W : Type 0} where
  -- listing
  abbrev pub IsListing : List (Operation W) → List ℕ → Type 0
  IsListing log order = (p : ℕ) (o : Operation W) → slice_get log p ≡ Some o → MayStand (is_due o) (times_of p order)

  -- nothing that stands in the order precedes the operation at place p
  abbrev pub NonePrecedes : List (Operation W) → List ℕ → ℕ → Type 0
  NonePrecedes log order p =
      (q : ℕ) (a b : Operation W) → 0 < times_of q order → slice_get log q ≡ Some a →
      slice_get log p ≡ Some b → ¬ Precedes a b

  -- precedence: nothing that stands behind an operation precedes it
  abbrev pub KeepsPrecedence : List (Operation W) → List ℕ → Type 0
  KeepsPrecedence log [] = Unit {0}
  KeepsPrecedence log (p ∷ order) = NonePrecedes log order p × KeepsPrecedence log order

module _ {S W : Type 0} where
  -- from the state s the object can make the steps of these operations, one after the other
  abbrev pub CanMake : (S → W → Option S) → List (Operation W) → S → List ℕ → Type 0
  CanMake after log s [] = Unit {0}
  CanMake after log s (p ∷ order) =
      (o : Operation W) × (t : S) × (slice_get log p ≡ Some o) × (after s o.what ≡ Some t) × CanMake after log t order

  -- a lawful order of a log of an object whose first state is `opening`
  pub record IsLawfulOrder (after : S → W → Option S) (opening : S) (log : List (Operation W))
      (order : List ℕ) : Type 0 where
    pub listing : IsListing log order
    pub precedence : KeepsPrecedence log order
    pub steps : CanMake after log opening order

  -- the log is linearizable: it has a lawful order
  abbrev pub IsLinearizable : (S → W → Option S) → S → List (Operation W) → Type 0
  IsLinearizable after opening log = (order : List ℕ) × IsLawfulOrder after opening log order
