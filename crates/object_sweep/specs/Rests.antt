-- What is left to be placed, and whether it can be.
use Rattle.std.specs.Prelude.{◌≡◌, ℕ, ◌≤◌, Bool, true, false, List, slice_get, Option, Some}
use Rattle.history_core.specs.Orders.{times_of}
use Rattle.object_core.specs.declared.operation.Operation.{Operation}
use Rattle.object_core.specs.Logs.{CanMake, is_due, KeepsPrecedence, MayStand}

-- how often an operation stands in the rest of an order: never, where it is closed
abbrev pub MayStandBehind : Bool → Bool → ℕ → Type 0
MayStandBehind true due times = times ≡ 0
MayStandBehind false due times = MayStand due times

module _ {W : Type 0} where
  -- no operation ended before it began
  abbrev pub RunForwards : List (Operation W) → Type 0
  RunForwards log = (p end : ℕ) (o : Operation W) → slice_get log p ≡ Some o → o.ends ≡ Some end → o.starts ≤ end

  -- what isn't closed ends no earlier than this
  abbrev pub NoOpenEndBefore : List (Operation W) → (ℕ → Bool) → ℕ → Type 0
  NoOpenEndBefore log closed end =
      (r at : ℕ) (a : Operation W) → closed r ≡ false → slice_get log r ≡ Some a → a.ends ≡ Some at → end ≤ at

module _ {S W : Type 0} where
  -- the rest of a lawful order, from a state on
  pub record IsRest (after : S → W → Option S) (log : List (Operation W)) (closed : ℕ → Bool) (s : S)
      (rest : List ℕ) : Type 0 where
    pub listing : (p : ℕ) (o : Operation W) → slice_get log p ≡ Some o →
        MayStandBehind (closed p) (is_due o) (times_of p rest)
    pub precedence : KeepsPrecedence log rest
    pub steps : CanMake after log s rest

  abbrev pub CanFinish : (S → W → Option S) → List (Operation W) → (ℕ → Bool) → S → Type 0
  CanFinish after log closed s = (rest : List ℕ) × IsRest after log closed s rest

  -- an operation that began by this moment and isn't closed leads to a state
  abbrev pub CanPlace : (S → W → Option S) → List (Operation W) → (ℕ → Bool) → ℕ → S → ℕ → S → Type 0
  CanPlace after log closed end s q t =
      (o : Operation W) × (slice_get log q ≡ Some o) × (closed q ≡ false) × (o.starts ≤ end) × (after s o.what ≡ Some t)
