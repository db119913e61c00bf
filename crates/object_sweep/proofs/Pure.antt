-- A pure operation that is sure to have taken effect may be placed at once: what follows can do without it.
use Rattle.std.proofs.Common.{◌≡◌, ◌≢◌, ℕ, ◌+◌, ◌<◌, ◌≤◌, Bool, true, false, cond, not, ◌||◌, nat_eq, List, [], ◌∷◌, length}
use Rattle.std.proofs.Common.{slice_get, Option, Some, refl, sym, ◌∙◌, ap, subst, arith, inl, inr}
use Rattle.std.proofs.lemmas.Bool.{cases_eq}
use Rattle.std.proofs.lemmas.Bool.Decides.{nat_tests}
use Rattle.std.proofs.lemmas.Option.{same_Some}
use Rattle.history_core.proofs.Listing.{times_cons}
use Rattle.history_core.specs.Orders.{times_of}
use Rattle.object_core.specs.declared.operation.Operation.{Operation}
use Rattle.object_core.specs.Logs.{CanMake, is_due, KeepsPrecedence, NonePrecedes}
use Rattle.object_sweep.specs.Reached.{without}
use Rattle.object_sweep.specs.Rests.{IsRest, MayStandBehind}
use Rattle.object_sweep.proofs.Lists.{same_if}
use Rattle.object_sweep.proofs.Placed.{or_left, or_right, other_number, same_number, times_there}

pub differ : (p q : ℕ) → nat_eq p q ≡ false → p ≢ q
differ p q e = grind (arith, nat_tests)

-- how often the others stand there without one
times_without : (p q : ℕ) (rest : List ℕ) → q ≢ p → times_of p (without q rest) ≡ times_of p rest
times_without p q [] ne = refl
times_without p q (x ∷ xs) ne = by_test (nat_eq x q) refl (times_without p q xs ne)
  where
    by_test : (b : Bool) → nat_eq x q ≡ b → times_of p (without q xs) ≡ times_of p xs →
        times_of p (without q (x ∷ xs)) ≡ times_of p (x ∷ xs)
    by_test true e more =
        let other : x ≢ p = λ s. ne (sym (same_if x q e) ∙ s) in
        ap (λ b. times_of p (cond (not b) (x ∷ without q xs) (without q xs))) e ∙ (more ∙ sym (times_there p x xs other))
    by_test false e more =
        ap (λ b. times_of p (cond (not b) (x ∷ without q xs) (without q xs))) e
        ∙ (times_cons p x (without q xs) ∙ (ap (λ n. cond (nat_eq x p) 1 0 + n) more ∙ sym (times_cons p x xs)))

times_gone : (q : ℕ) (rest : List ℕ) → times_of q (without q rest) ≡ 0
times_gone q [] = refl
times_gone q (x ∷ xs) = by_test (nat_eq x q) refl (times_gone q xs)
  where
    by_test : (b : Bool) → nat_eq x q ≡ b → times_of q (without q xs) ≡ 0 → times_of q (without q (x ∷ xs)) ≡ 0
    by_test true e more = ap (λ b. times_of q (cond (not b) (x ∷ without q xs) (without q xs))) e ∙ more
    by_test false e more =
        ap (λ b. times_of q (cond (not b) (x ∷ without q xs) (without q xs))) e
        ∙ (times_there q x (without q xs) (differ x q e) ∙ more)

times_at_most : (p q : ℕ) (rest : List ℕ) → times_of p (without q rest) ≤ times_of p rest
times_at_most p q rest = elim (cases_eq q p) [
  | inl e ↦
      let P : ℕ → Type 0 = λ z. times_of z (without q rest) ≤ times_of z rest in
      let none : times_of q (without q rest) ≡ 0 = times_gone q rest in subst P e (omega (arith, none))
  | inr ne ↦ let same = times_without p q rest ne in omega (arith, same)
]

-- and how long that is
pub long_without : (q : ℕ) (rest : List ℕ) → length (without q rest) ≤ length rest
long_without q [] = omega arith
long_without q (x ∷ xs) = by_test (nat_eq x q) refl (long_without q xs)
  where
    by_test : (b : Bool) → nat_eq x q ≡ b → length (without q xs) ≤ length xs → length (without q (x ∷ xs)) ≤ length (x ∷ xs)
    by_test b e more =
        let P : Bool → Type 0 = λ z. length (cond (not z) (x ∷ without q xs) (without q xs)) ≤ length (x ∷ xs) in
        subst P (sym e) (here b more)
      where
        here : (z : Bool) → length (without q xs) ≤ length xs →
            length (cond (not z) (x ∷ without q xs) (without q xs)) ≤ length (x ∷ xs)
        here true l = omega (arith, l)
        here false l = omega (arith, l)

pub shorter : (q : ℕ) (rest : List ℕ) → 0 < times_of q rest → length (without q rest) < length rest
shorter q [] l = absurd (omega (arith, l))
shorter q (x ∷ xs) l = by_test (nat_eq x q) refl (shorter q xs)
  where
    by_test : (b : Bool) → nat_eq x q ≡ b → (0 < times_of q xs → length (without q xs) < length xs) →
        length (without q (x ∷ xs)) < length (x ∷ xs)
    by_test true e more =
        let P : Bool → Type 0 = λ z. length (cond (not z) (x ∷ without q xs) (without q xs)) < length (x ∷ xs) in
        let most = long_without q xs in subst P (sym e) (omega (arith, most))
    by_test false e more =
        let P : Bool → Type 0 = λ z. length (cond (not z) (x ∷ without q xs) (without q xs)) < length (x ∷ xs) in
        let there = times_there q x xs (differ x q e) in
        let less = more (omega (arith, l, there)) in subst P (sym e) (omega (arith, less))

module _ {S W : Type 0} (after : S → W → Option S) (log : List (Operation W)) where
  module _ (q : ℕ) (o : Operation W) (at : slice_get log q ≡ Some o) (pure : (u v : S) → after u o.what ≡ Some v → v ≡ u) where
    made : (s : S) (rest : List ℕ) → CanMake after log s rest → CanMake after log s (without q rest)
    made s [] h = tt
    made s (x ∷ xs) h = by_test (nat_eq x q) refl (made h.1 xs h.4)
      where
        by_test : (b : Bool) → nat_eq x q ≡ b → CanMake after log h.1 (without q xs) → CanMake after log s (without q (x ∷ xs))
        by_test true e more =
            let there : slice_get log x ≡ Some o = ap (slice_get log) (same_if x q e) ∙ at in
            let same : h.0 ≡ o = same_Some h.0 o (sym h.2 ∙ there) in
            let still : h.1 ≡ s = pure s h.1 (ap (λ (z : Operation W). after s z.what) (sym same) ∙ h.3) in
            let P : Bool → Type 0 = λ z. CanMake after log s (cond (not z) (x ∷ without q xs) (without q xs)) in
            let Q : S → Type 0 = λ z. CanMake after log z (without q xs) in subst P (sym e) (subst Q still more)
        by_test false e more =
            let P : Bool → Type 0 = λ z. CanMake after log s (cond (not z) (x ∷ without q xs) (without q xs)) in
            subst P (sym e) (h.0, h.1, h.2, h.3, more)

    kept : (rest : List ℕ) → KeepsPrecedence log rest → KeepsPrecedence log (without q rest)
    kept [] h = tt
    kept (x ∷ xs) h = by_test (nat_eq x q) refl (kept xs h.1)
      where
        first : NonePrecedes log (without q xs) x
        first r a b stood ra xb = let most = times_at_most r q xs in h.0 r a b (omega (arith, most, stood)) ra xb

        by_test : (b : Bool) → nat_eq x q ≡ b → KeepsPrecedence log (without q xs) → KeepsPrecedence log (without q (x ∷ xs))
        by_test true e more =
            let P : Bool → Type 0 = λ z. KeepsPrecedence log (cond (not z) (x ∷ without q xs) (without q xs)) in subst P (sym e) more
        by_test false e more =
            let P : Bool → Type 0 = λ z. KeepsPrecedence log (cond (not z) (x ∷ without q xs) (without q xs)) in
            subst P (sym e) (first, more)

    -- the rest of a lawful order without it, where it need not stand in one
    pub without_idle : is_due o ≡ false → (f : ℕ → Bool) (s : S) (rest : List ℕ) → IsRest after log f s rest →
        IsRest after log f s (without q rest)
    without_idle idle f s rest h = record { listing = listing; precedence = kept rest h.precedence; steps = made s rest h.steps }
      where
        never : (b due : Bool) (times : ℕ) → due ≡ false → times ≡ 0 → MayStandBehind b due times
        never true due times e z = z
        never false true times e z = cc
        never false false times e z = omega (arith, z)

        listing : (p : ℕ) (a : Operation W) → slice_get log p ≡ Some a → MayStandBehind (f p) (is_due a) (times_of p (without q rest))
        listing p a pa = elim (cases_eq q p) [
          | inl e ↦
              let same : o ≡ a = same_Some o a (sym at ∙ (ap (slice_get log) e ∙ pa)) in
              let gone : times_of p (without q rest) ≡ 0 = ap (λ z. times_of z (without q rest)) (sym e) ∙ times_gone q rest in
              never (f p) (is_due a) (times_of p (without q rest)) (ap is_due (sym same) ∙ idle) gone
          | inr ne ↦
              let P : ℕ → Type 0 = λ n. MayStandBehind (f p) (is_due a) n in
              subst P (sym (times_without p q rest ne)) (h.listing p a pa)
        ]

    -- and where it is placed
    pub without_pure : (f : ℕ → Bool) (s : S) (rest : List ℕ) → IsRest after log f s rest →
        IsRest after log (λ r. f r || nat_eq r q) s (without q rest)
    without_pure f s rest h = record { listing = listing; precedence = kept rest h.precedence; steps = made s rest h.steps }
      where
        listing : (p : ℕ) (a : Operation W) → slice_get log p ≡ Some a →
            MayStandBehind (f p || nat_eq p q) (is_due a) (times_of p (without q rest))
        listing p a pa = elim (cases_eq q p) [
          | inl e ↦
              let shut : (f p || nat_eq p q) ≡ true = or_right (f p) (nat_eq p q) (ap (nat_eq p) e ∙ same_number p) in
              let P : Bool → Type 0 = λ b. MayStandBehind b (is_due a) (times_of p (without q rest)) in
              subst P (sym shut) (ap (λ z. times_of z (without q rest)) (sym e) ∙ times_gone q rest)
          | inr ne ↦
              let P : ℕ → Type 0 = λ n. MayStandBehind (f p) (is_due a) n in
              let Q : Bool → Type 0 = λ b. MayStandBehind b (is_due a) (times_of p (without q rest)) in
              let same : (f p || nat_eq p q) ≡ f p = or_left (f p) (nat_eq p q) (other_number p q (λ e. ne (sym e))) in
              subst Q (sym same) (subst P (sym (times_without p q rest ne)) (h.listing p a pa))
        ]
