-- Where an operation stands in an atomic order: it is listed as often as it may be.
use Rattle.std.proofs.Common.{◌≡◌, ◌≢◌, ℕ, ◌+◌, ◌<◌, ◌≤◌, zero, suc, List, [], ◌∷◌, length, take, slice_get, Option, None, Some, ◌⊎◌, inl}
use Rattle.std.proofs.Common.{inr}
use Rattle.std.proofs.Common.{refl, sym, ◌∙◌, ap, subst, arith}
use Rattle.std.proofs.lemmas.Option.{none-some, same_Some, slice_get_within}
use Rattle.history_core.specs.declared.history.Op.{Op}
use Rattle.history_core.specs.declared.history.Kind.{Kind}
use Rattle.history_core.specs.declared.history.Kind.TheVariants.{Write, Read, Refused}
use Rattle.history_core.specs.Orders.{IsAtomicOrder, MayStand, times_of}
use Rattle.history_core.proofs.Listing.{times_cases, times_cons}
use Rattle.history_core.proofs.Atomic.{once_at}

once : (kind : Kind) (ends : Option ℕ) (end times : ℕ) → ends ≡ Some end → MayStand ends kind times → times ≡ 1
once kind ends end times e h = subst (λ z. MayStand z kind times) e h

module _ {R : Type 0} (opening : R) (ops : List (Op R)) (order : List ℕ) (atomic : IsAtomicOrder (λ x y. x ≡ y) opening ops order) where
  stands : (p : ℕ) (op : Op R) → slice_get ops p ≡ Some op → MayStand op.ends op.kind (times_of p order)
  stands p op at = atomic.listing.stands p op (omega arith) (slice_get_within ops p op at) at

  pub listed : (p end : ℕ) (op : Op R) → slice_get ops p ≡ Some op → op.ends ≡ Some end → (i : ℕ) × (slice_get order i ≡ Some p)
  listed p end op at e =
      let one = once op.kind op.ends end (times_of p order) e (stands p op at) in
      elim (times_cases p order) [ inl w ↦ w | inr none ↦ absurd (omega (arith, one, none)) ]

  pub alone : (p end i j : ℕ) (op : Op R) → slice_get ops p ≡ Some op → op.ends ≡ Some end → slice_get order i ≡ Some p →
      slice_get order j ≡ Some p → j ≡ i
  alone p end i j op at e a b =
      let one = once op.kind op.ends end (times_of p order) e (stands p op at) in
      once_at order p j i (omega (arith, one)) b a
