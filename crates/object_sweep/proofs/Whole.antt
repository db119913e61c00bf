-- The opening, one end, and the last one.
use Rattle.std.proofs.Common.{◌≡◌, ℕ, ◌<◌, ◌≤◌, Bool, true, false, ◌||◌, ◌&&◌, not, nat_eq, List, [], slice_get, is_some}
use Rattle.std.proofs.Common.{Option, None, Some, sym, ap, subst, arith, ◌⊎◌, inl, inr, ◌↔◌, refl}
use Rattle.std.proofs.lemmas.Bool.{cases_lt}
use Rattle.history_core.specs.Orders.{times_of}
use Rattle.object_core.specs.declared.operation.Operation.{Operation}
use Rattle.object_core.specs.Logs.{is_due, IsLinearizable, MayStand}
use Rattle.object_sweep.specs.Rests.{CanFinish, CanPlace, MayStandBehind, NoOpenEndBefore, RunForwards}
use Rattle.object_sweep.proofs.Placed.{complete, dropped, sound, undropped}

module _ {S W : Type 0} (after : S → W → Option S) where
  pub opened : (s : S) (log : List (Operation W)) → (CanFinish after log (λ q. false) s ↔ IsLinearizable after s log)
  opened s log = (
    λ h. (h.0, record { listing = h.1.listing; precedence = h.1.precedence; steps = h.1.steps }),
    λ h.
        (h.0, record { listing = h.1.listing; precedence = h.1.precedence; steps = h.1.steps }),
  )

  pub one_end : (log : List (Operation W)) (closed : ℕ → Bool) (end p : ℕ) (o : Operation W) (s : S) → RunForwards log →
      NoOpenEndBefore log closed end → slice_get log p ≡ Some o → o.ends ≡ Some end → closed p ≡ false →
      (CanFinish after log closed s ↔ (((o.maybe ≡ true) × CanFinish after log (λ r. closed r || nat_eq r p) s) ⊎
      ((q : ℕ) × (t : S) × CanPlace after log closed end s q t × CanFinish after log (λ r. closed r || nat_eq r q) t)))
  one_end log closed end p o s forwards last at ends free = (
    λ h. by_times h (cases_lt 0 (times_of p h.0)),
    λ h. elim h [
      | inl a ↦ undropped after log closed p o at a.0 free s a.1
      | inr b ↦ sound after log closed end last s b.0 b.1 b.2 b.3
    ],
  )
    where
      by_times : (h : CanFinish after log closed s) → (0 < times_of p h.0) ⊎ (times_of p h.0 ≤ 0) →
          ((o.maybe ≡ true) × CanFinish after log (λ r. closed r || nat_eq r p) s) ⊎
          ((q : ℕ) × (t : S) × CanPlace after log closed end s q t × CanFinish after log (λ r. closed r || nat_eq r q) t)
      by_times h (inl l) = inr (complete after log forwards closed end p o at ends s h.0 h.1 l)
      by_times h (inr le) =
          let none : times_of p h.0 ≡ 0 = omega arith in inl (dropped after log closed p end o at ends s h.0 h.1 none free)

  pub last_end : (log : List (Operation W)) (closed : ℕ → Bool) (s : S) →
      ((p : ℕ) (o : Operation W) → slice_get log p ≡ Some o → closed p ≡ false → o.ends ≡ None) → CanFinish after log closed s
  last_end log closed s none = ([], record { listing = listing; precedence = tt; steps = tt })
    where
      listing : (p : ℕ) (o : Operation W) → slice_get log p ≡ Some o → MayStandBehind (closed p) (is_due o) (times_of p [])
      listing p o at = by_closed (closed p) refl
        where
          by_closed : (b : Bool) → closed p ≡ b → MayStandBehind b (is_due o) (times_of p [])
          by_closed true e = refl
          by_closed false e =
              let due : is_due o ≡ false = ap (λ z. is_some z && not o.maybe) (none p o at e) in
              let few : times_of p [] ≤ 1 = omega arith in
              subst (λ b. MayStand b (times_of p [])) (sym due) few
