-- What an order says of unfinished and refused writes, and a verdict of the rules.
use Rattle.std.proofs.Common.{◌≡◌, ℕ, ◌≤◌, List, take, slice_get, Option, None, Some, true, false, option_and_then, refl, sym, ◌∙◌, ap}
use Rattle.std.proofs.Common.{subst, arith}
use Rattle.std.proofs.lemmas.Option.{slice_get_within}
use Rattle.history_core.specs.declared.history.Op.{Op}
use Rattle.history_core.specs.declared.history.Kind.{Kind}
use Rattle.history_core.specs.declared.history.Kind.TheVariants.{Write, Refused}
use Rattle.history_core.specs.Orders.{IsAtomicOrder, latest, listed_at, MayStand, ReadsRight, times_of}
use Rattle.history_core.proofs.Atomic.{once_at}
use Rattle.theorem_uses.specs.Orders.{SawWhatIsThere, StandsOnceAtMost, VerdictsShow}

apart : false ≡ true → ⊥
apart e = cc

once : (kind : Kind) (ends : Option ℕ) (times : ℕ) → ends ≡ None → kind ≡ Write → MayStand ends kind times → times ≤ 1
once kind ends times e k h = subst (λ z. MayStand None z times) k (subst (λ z. MayStand z kind times) e h)

module _ {R : Type 0} where
  pub at_most_once : StandsOnceAtMost R
  at_most_once opening ops order p i j op atomic at e k a b =
      let one = once op.kind op.ends (times_of p order) e k
      (atomic.listing.stands p op (omega arith) (slice_get_within ops p op at) at) in
      once_at order p j i (omega (arith, one)) b a

  right : (item before : Option R) → ReadsRight (λ x y. x ≡ y) Refused item before → (x : R) × (item ≡ Some x) × (before ≡ Some x)
  right None before h = absurd h
  right (Some x) None h = absurd h
  right (Some x) (Some y) h = (x, refl, ap Some (sym h))

  has : (item before : Option R) → ReadsRight (λ x y. x ≡ y) Write item before → (x : R) × (item ≡ Some x)
  has None before h = absurd (apart h)
  has (Some x) before h = (x, refl)

  pub saw : SawWhatIsThere R
  saw opening ops order i p op atomic e at =
      let there : listed_at ops order i ≡ Some op = ap (option_and_then (slice_get ops)) e ∙ at in
      let reads = atomic.reading i op there in
      let before = latest opening ops (take i order) in (
        λ k. right op.item before (subst (λ z. ReadsRight (λ x y. x ≡ y) z op.item before) k reads),
        λ k. has op.item before (subst (λ z. ReadsRight (λ x y. x ≡ y) z op.item before) k reads),
      )

  pub verdicts : VerdictsShow R
  verdicts opening terms ops order = (λ h. h, λ h. h, λ h. h, λ h. h, λ h. h)
