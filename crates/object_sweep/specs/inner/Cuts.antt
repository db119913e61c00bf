-- A log up to a moment: of its operations some end as they did, and the others never. Only private functions cite this.
use Rattle.std.specs.Prelude.{◌≡◌, ℕ, ◌≤◌, true, List, slice_get, Some}
use Rattle.object_core.specs.declared.operation.Operation.{Operation}
use Rattle.object_sweep.specs.Reached.{is_in}

module _ {W : Type 0} where
  -- the operation at this place ends then
  abbrev pub EndsAt : List (Operation W) → ℕ → ℕ → Type 0
  EndsAt log place end = (o : Operation W) × (slice_get log place ≡ Some o) × (o.ends ≡ Some end)

  -- the same operation, with its end or without
  pub record IsCutOf (o cut : Operation W) : Type 0 where
    pub starts : cut.starts ≡ o.starts
    pub maybe : cut.maybe ≡ o.maybe
    pub what : cut.what ≡ o.what
    pub ends : (at : ℕ) → cut.ends ≡ Some at → o.ends ≡ Some at

  -- the same operations; with an end those have theirs that come before it, at one moment in the order of places
  pub record IsLogCut (log cut : List (Operation W)) : Type 0 where
    pub each : (q : ℕ) (o : Operation W) → slice_get log q ≡ Some o →
        (c : Operation W) × (slice_get cut q ≡ Some c) × IsCutOf o c
    pub from : (q : ℕ) (c : Operation W) → slice_get cut q ≡ Some c →
        (o : Operation W) × (slice_get log q ≡ Some o) × IsCutOf o c
    pub earlier : (p q at end : ℕ) → EndsAt log p at → EndsAt cut q end → at ≤ end → (at ≡ end → p ≤ q) →
        EndsAt cut p at

  -- what has ended has its end
  abbrev pub KeepsEnds : List (Operation W) → List (Operation W) → List ℕ → Type 0
  KeepsEnds log cut ended = (q at : ℕ) → is_in q ended ≡ true → EndsAt log q at → EndsAt cut q at
