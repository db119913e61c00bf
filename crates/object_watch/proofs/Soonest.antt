-- The soonest end.
use Rattle.std.proofs.Common.{◌≡◌, ℕ, zero, suc, ◌+◌, ◌<◌, ◌≤◌, Bool, true, false, cond, nat_le, nat_lt, List, [], ◌∷◌, length}
use Rattle.std.proofs.Common.{slice_get, Option, None, Some, refl, sym, ◌∙◌, ap, subst, arith, ◌⊎◌, inl, inr}
use Rattle.std.proofs.lemmas.Bool.{cases_lt}
use Rattle.std.proofs.lemmas.Bool.Decides.{nat_tests}
use Rattle.std.proofs.lemmas.Option.{same_Some, slice_get_within}
use Rattle.object_core.specs.declared.operation.Operation.{Operation}
use Rattle.object_watch.specs.Remainders.{AreAhead}
use Rattle.object_watch.specs.declared.remainder.Remainder.{Remainder}
use Rattle.object_watch.specs.inner.Levels.{end_or, HasEnd, IsEndingAt, IsSoonerOf, IsSoonestBelow, NoneIsOverBefore, sooner_end, soonest}
use Rattle.object_watch.specs.inner.Levels.{soonest_of}

-- of two ends
sooner_first : (last : ℕ) (a b : Option ℕ) → end_or last (sooner_end last a b) ≤ end_or last a
sooner_first last None None = omega arith
sooner_first last None (Some end) = by_test (nat_le end last) refl
  where
    by_test : (b : Bool) → nat_le end last ≡ b → end_or last (cond b (Some end) None) ≤ last + 1
    by_test true e = let l : end ≤ last = grind (arith, nat_tests) in omega (arith, l)
    by_test false e = omega arith
sooner_first last (Some least) None = omega arith
sooner_first last (Some least) (Some end) = by_test (nat_lt end least) refl
  where
    by_test : (b : Bool) → nat_lt end least ≡ b → end_or last (cond b (Some end) (Some least)) ≤ least
    by_test true e = let l : end < least = grind (arith, nat_tests) in omega (arith, l)
    by_test false e = omega arith

sooner_second : (last : ℕ) (a b : Option ℕ) (at : ℕ) → b ≡ Some at → end_or last (sooner_end last a b) ≤ at
sooner_second last a None at e = cc
sooner_second last None (Some end) at e = let same = same_Some end at e in by_test (nat_le end last) refl same
  where
    by_test : (b : Bool) → nat_le end last ≡ b → end ≡ at → end_or last (cond b (Some end) None) ≤ at
    by_test true f s = omega (arith, s)
    by_test false f s = let l : last < end = grind (arith, nat_tests) in omega (arith, s, l)
sooner_second last (Some least) (Some end) at e = let same = same_Some end at e in by_test (nat_lt end least) refl same
  where
    by_test : (b : Bool) → nat_lt end least ≡ b → end ≡ at → end_or last (cond b (Some end) (Some least)) ≤ at
    by_test true f s = omega (arith, s)
    by_test false f s = let l : least ≤ end = grind (arith, nat_tests) in omega (arith, s, l)

sooner_is : (last : ℕ) (a b : Option ℕ) → ((at : ℕ) → a ≡ Some at → at ≤ last) →
    (sooner_end last a b ≡ a) ⊎ ((at : ℕ) × (b ≡ Some at) × (at ≤ last) × (sooner_end last a b ≡ Some at))
sooner_is last None None h = inl refl
sooner_is last None (Some end) h = by_test (nat_le end last) refl
  where
    by_test : (b : Bool) → nat_le end last ≡ b → (cond b (Some end) None ≡ None) ⊎
        ((at : ℕ) × (Some end ≡ Some at) × (at ≤ last) × (cond b (Some end) None ≡ Some at))
    by_test true e = let l : end ≤ last = grind (arith, nat_tests) in inr (end, refl, l, refl)
    by_test false e = inl refl
sooner_is last (Some least) None h = inl refl
sooner_is last (Some least) (Some end) h = by_test (nat_lt end least) refl
  where
    by_test : (b : Bool) → nat_lt end least ≡ b → (cond b (Some end) (Some least) ≡ Some least) ⊎
        ((at : ℕ) × (Some end ≡ Some at) × (at ≤ last) × (cond b (Some end) (Some least) ≡ Some at))
    by_test true e =
        let l : end < least = grind (arith, nat_tests) in
        let m = h least refl in inr (end, refl, omega (arith, l, m), refl)
    by_test false e = inl refl

module _ {W : Type 0} (last : ℕ) (rest : List (Operation W)) (least : Option ℕ) (h : (at : ℕ) → least ≡ Some at → at ≤ last) where
  pub sooner_none : IsSoonerOf last 0 rest least least
  sooner_none = record { below = omega arith; lower = λ p at o l e f. absurd (omega (arith, l)); of = inl refl }

  soon : (n : ℕ) (sooner : Option ℕ) → IsSoonerOf last n rest least sooner → (at : ℕ) → sooner ≡ Some at → at ≤ last
  soon n sooner i at e = elim i.of [
    | inl same ↦ h at (sym same ∙ e)
    | inr x ↦ let s = same_Some x.1 at (sym x.4 ∙ e) in let l = x.3 in omega (arith, s, l)
  ]

  pub sooner_more : (n : ℕ) (o : Operation W) → slice_get rest n ≡ Some o → (sooner : Option ℕ) → IsSoonerOf last n rest least sooner →
      IsSoonerOf last (n + 1) rest least (sooner_end last sooner o.ends)
  sooner_more n o at sooner i = record { below = below; lower = lower; of = of }
    where
      below : end_or last (sooner_end last sooner o.ends) ≤ end_or last least
      below = let a = sooner_first last sooner o.ends in let b = i.below in omega (arith, a, b)

      lower : (p e : ℕ) (x : Operation W) → p < n + 1 → slice_get rest p ≡ Some x → x.ends ≡ Some e →
          end_or last (sooner_end last sooner o.ends) ≤ e
      lower p e x l px xe = elim (cases_lt p n) [
        | inl less ↦ let a = sooner_first last sooner o.ends in let b = i.lower p e x less px xe in omega (arith, a, b)
        | inr le ↦
            let here : p ≡ n = omega (arith, l, le) in
            let same : x ≡ o = same_Some x o (sym px ∙ (ap (slice_get rest) here ∙ at)) in
            sooner_second last sooner o.ends e (ap (λ (z : Operation W). z.ends) (sym same) ∙ xe)
      ]

      of : (sooner_end last sooner o.ends ≡ least) ⊎
          ((p e : ℕ) × IsEndingAt rest e p × (e ≤ last) × (sooner_end last sooner o.ends ≡ Some e))
      of = elim (sooner_is last sooner o.ends (soon n sooner i)) [
        | inl same ↦ elim i.of [
          | inl was ↦ inl (same ∙ was)
          | inr x ↦ inr (x.0, x.1, x.2, x.3, same ∙ x.4)
        ]
        | inr x ↦ inr (n, x.0, (o, at, x.1), x.2, x.3)
      ]

module _ {S W : Type 0} (last : ℕ) (held : List (Remainder S W)) where
  pub soonest_none : IsSoonestBelow last 0 held None
  soonest_none = record {
    lower = λ i p at one o l e f g. absurd (omega (arith, l));
    has = λ at e. cc;
  }

  pub soonest_more : (n : ℕ) (one : Remainder S W) → slice_get held n ≡ Some one → (end end' : Option ℕ) → IsSoonestBelow last n held end →
      IsSoonerOf last (length one.rest.items) one.rest.items end end' → IsSoonestBelow last (n + 1) held end'
  soonest_more n one at end end' h s = record {
    lower = lower;
    has = has;
  }
    where
      lower : (i p e : ℕ) (x : Remainder S W) (o : Operation W) → i < n + 1 → slice_get held i ≡ Some x →
          slice_get x.rest.items p ≡ Some o →
          o.ends ≡ Some e → end_or last end' ≤ e
      lower i p e x o l ix po oe = elim (cases_lt i n) [
        | inl less ↦ let a = h.lower i p e x o less ix po oe in let b = s.below in omega (arith, a, b)
        | inr le ↦
            let here : i ≡ n = omega (arith, l, le) in
            let same : x ≡ one = same_Some x one (sym ix ∙ (ap (slice_get held) here ∙ at)) in
            let po' : slice_get one.rest.items p ≡ Some o = subst (λ (z : Remainder S W). slice_get z.rest.items p ≡ Some o) same po in
            s.lower p e o (slice_get_within one.rest.items p o po') po' oe
      ]

      has : (e : ℕ) → end' ≡ Some e → HasEnd held e × (e ≤ last)
      has e is = elim s.of [
        | inl same ↦ h.has e (sym same ∙ is)
        | inr x ↦
            let same : x.1 ≡ e = same_Some x.1 e (sym x.4 ∙ is) in
            let l = x.3 in
            let P : ℕ → Type 0 = λ z. IsEndingAt one.rest.items z x.0 in
            ((n, one, x.0, at, subst P same x.2), omega (arith, same, l))
      ]

  -- no end is sooner
  pub soonest_first : (end : ℕ) → IsSoonestBelow last (length held) held (Some end) → NoneIsOverBefore end held
  soonest_first end h i p at one o e f g = h.lower i p at one o (slice_get_within held i one e) e f g

  pub soonest_ends : IsSoonestBelow last (length held) held None → NoneIsOverBefore (last + 1) held
  soonest_ends h i p at one o e f g = h.lower i p at one o (slice_get_within held i one e) e f g

-- of one list
module _ {W : Type 0} (last : ℕ) where
  low : (m : ℕ) (rest : List (Operation W)) → ((p at : ℕ) (o : Operation W) → slice_get rest p ≡ Some o → o.ends ≡ Some at → m ≤ at) →
      m ≤ last + 1 → m ≤ soonest last rest
  low m [] h l = l
  low m (o ∷ rest) h l =
      let a = low m rest (λ p at x e f. h (suc p) at x e f) l in
      let b = here o.ends refl in omega (arith, a, b)
    where
      here : (ends : Option ℕ) → o.ends ≡ ends → m ≤ end_or last ends
      here None e = l
      here (Some end) e = h 0 end o refl e

  high : (rest : List (Operation W)) (at p : ℕ) → IsEndingAt rest at p → soonest last rest ≤ at
  high [] at p (o, e, f) = cc
  high (x ∷ rest) at zero (o, e, f) =
      let same : x ≡ o = same_Some x o e in
      let g : end_or last x.ends ≡ at = ap (λ (z : Operation W). end_or last z.ends) same ∙ ap (end_or last) f in omega (arith, g)
  high (x ∷ rest) at (suc p) (o, e, f) = let a = high rest at p (o, e, f) in omega (arith, a)

-- the measure: no end is sooner than what is ahead, and none of those that are there is
module _ {S W : Type 0} (last : ℕ) where
  pub soonest_low : (m : ℕ) (held : List (Remainder S W)) → AreAhead m held → m ≤ last + 1 → m ≤ soonest_of last held
  soonest_low m [] h l = l
  soonest_low m (one ∷ held) h l =
      let a = soonest_low m held (λ i x e. h (suc i) x e) l in
      let b = low last m one.rest.items (h 0 one refl).ends l in omega (arith, a, b)

  pub soonest_high : (held : List (Remainder S W)) (at : ℕ) → HasEnd held at → soonest_of last held ≤ at
  soonest_high [] at (i, one, p, e, f) = cc
  soonest_high (x ∷ held) at (zero, one, p, e, f) =
      let same : x ≡ one = same_Some x one e in
      let g = high last one.rest.items at p f in
      let s : soonest last x.rest.items ≡ soonest last one.rest.items = ap (λ (z : Remainder S W). soonest last z.rest.items) same in
      omega (arith, g, s)
  soonest_high (x ∷ held) at (suc i, one, p, e, f) = let a = soonest_high held at (i, one, p, e, f) in omega (arith, a)
