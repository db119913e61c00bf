-- An operation is placed in the place of another: what follows has the other one where it had this one.
use Rattle.std.proofs.Common.{◌≡◌, ◌≢◌, ℕ, ◌+◌, ◌<◌, ◌≤◌, Bool, true, false, cond, ◌||◌, nat_eq, List, [], ◌∷◌, length, map}
use Rattle.std.proofs.Common.{slice_get, Option, Some, suc, refl, sym, ◌∙◌, ap, subst, arith, ◌⊎◌, inl, inr}
use Rattle.std.proofs.lemmas.Bool.{cases_eq}
use Rattle.std.proofs.lemmas.Option.{same_Some}
use Rattle.history_core.proofs.Listing.{times_cons}
use Rattle.history_core.specs.Orders.{times_of}
use Rattle.object_core.specs.declared.operation.Operation.{Operation}
use Rattle.object_core.specs.Logs.{CanMake, is_due, KeepsPrecedence, MayStand, NonePrecedes, Precedes}
use Rattle.object_sweep.specs.inner.Steps.{IsInPlaceOf}
use Rattle.object_sweep.specs.Rests.{IsRest, MayStandBehind, NoOpenEndBefore, RunForwards}
use Rattle.object_sweep.proofs.Lists.{same_if}
use Rattle.object_sweep.proofs.Placed.{either_or, ended_before, ends_before, open_where, or_left, or_right, other_number, same_number}
use Rattle.object_sweep.proofs.Pure.{differ}

-- q for r
abbrev pub renamed : ℕ → ℕ → ℕ → ℕ
renamed r q p = cond (nat_eq p r) q p

pub long_renamed : (r q : ℕ) (rest : List ℕ) → length (map (renamed r q) rest) ≡ length rest
long_renamed r q [] = refl
long_renamed r q (x ∷ xs) = ap suc (long_renamed r q xs)

-- by whether the first is r, how often p stands there
module _ (r q p : ℕ) where
  first_times : (x : ℕ) (xs : List ℕ) (b : Bool) → nat_eq x r ≡ b →
      times_of p (map (renamed r q) (x ∷ xs)) ≡ cond (nat_eq (cond b q x) p) 1 0 + times_of p (map (renamed r q) xs)
  first_times x xs b e = times_cons p (renamed r q x) (map (renamed r q) xs)
      ∙ ap (λ z. cond (nat_eq (cond z q x) p) 1 0 + times_of p (map (renamed r q) xs)) e

times_gone : (r q : ℕ) → r ≢ q → (rest : List ℕ) → times_of r (map (renamed r q) rest) ≡ 0
times_gone r q ne [] = refl
times_gone r q ne (x ∷ xs) = by_test (nat_eq x r) refl (times_gone r q ne xs)
  where
    by_test : (b : Bool) → nat_eq x r ≡ b → times_of r (map (renamed r q) xs) ≡ 0 → times_of r (map (renamed r q) (x ∷ xs)) ≡ 0
    by_test true e more =
        let k : times_of r (map (renamed r q) (x ∷ xs)) ≡ 0 + times_of r (map (renamed r q) xs) = first_times r q r x xs true e
        ∙ ap (λ b. cond b 1 0 + times_of r (map (renamed r q) xs)) (other_number q r (λ s. ne (sym s))) in
        omega (arith, k, more)
    by_test false e more =
        let k : times_of r (map (renamed r q) (x ∷ xs)) ≡ 0 + times_of r (map (renamed r q) xs) = first_times r q r x xs false e
        ∙ ap (λ b. cond b 1 0 + times_of r (map (renamed r q) xs)) e in
        omega (arith, k, more)

times_other : (r q p : ℕ) → r ≢ p → q ≢ p → (rest : List ℕ) → times_of p (map (renamed r q) rest) ≡ times_of p rest
times_other r q p nr nq [] = refl
times_other r q p nr nq (x ∷ xs) = by_test (nat_eq x r) refl (times_other r q p nr nq xs)
  where
    by_test : (b : Bool) → nat_eq x r ≡ b → times_of p (map (renamed r q) xs) ≡ times_of p xs →
        times_of p (map (renamed r q) (x ∷ xs)) ≡ times_of p (x ∷ xs)
    by_test true e more =
        let other : x ≢ p = λ s. nr (sym (same_if x r e) ∙ s) in
        let k : times_of p (map (renamed r q) (x ∷ xs)) ≡ 0 + times_of p (map (renamed r q) xs) = first_times r q p x xs true e
        ∙ ap (λ b. cond b 1 0 + times_of p (map (renamed r q) xs)) (other_number q p nq) in
        let m : times_of p (x ∷ xs) ≡ 0 + times_of p xs =
        times_cons p x xs ∙ ap (λ b. cond b 1 0 + times_of p xs) (other_number x p other) in
        omega (arith, k, m, more)
    by_test false e more =
        first_times r q p x xs false e ∙ (ap (λ n. cond (nat_eq x p) 1 0 + n) more ∙ sym (times_cons p x xs))

-- where q isn't there
absent : (q x : ℕ) (xs : List ℕ) → times_of q (x ∷ xs) ≡ 0 → (x ≢ q) × (times_of q xs ≡ 0)
absent q x xs none = by_test (nat_eq x q) refl (sym (times_cons q x xs) ∙ none)
  where
    by_test : (b : Bool) → nat_eq x q ≡ b → cond (nat_eq x q) 1 0 + times_of q xs ≡ 0 → (x ≢ q) × (times_of q xs ≡ 0)
    by_test true e z = let k : 1 + times_of q xs ≡ 0 = sym (ap (λ b. cond b 1 0 + times_of q xs) e) ∙ z in absurd (omega (arith, k))
    by_test false e z = let k : 0 + times_of q xs ≡ 0 = sym (ap (λ b. cond b 1 0 + times_of q xs) e) ∙ z in (
      differ x q e,
      omega (arith, k),
    )

times_there : (r q : ℕ) (rest : List ℕ) → times_of q rest ≡ 0 → times_of q (map (renamed r q) rest) ≡ times_of r rest
times_there r q [] none = refl
times_there r q (x ∷ xs) none = by_test (nat_eq x r) refl (times_there r q xs (absent q x xs none).1)
  where
    by_test : (b : Bool) → nat_eq x r ≡ b → times_of q (map (renamed r q) xs) ≡ times_of r xs →
        times_of q (map (renamed r q) (x ∷ xs)) ≡ times_of r (x ∷ xs)
    by_test true e more =
        let k : times_of q (map (renamed r q) (x ∷ xs)) ≡ 1 + times_of q (map (renamed r q) xs) = first_times r q q x xs true e
        ∙ ap (λ b. cond b 1 0 + times_of q (map (renamed r q) xs)) (same_number q) in
        let m : times_of r (x ∷ xs) ≡ 1 + times_of r xs = times_cons r x xs ∙ ap (λ b. cond b 1 0 + times_of r xs) e in
        omega (arith, k, m, more)
    by_test false e more =
        let k : times_of q (map (renamed r q) (x ∷ xs)) ≡ 0 + times_of q (map (renamed r q) xs) = first_times r q q x xs false e
        ∙ ap (λ b. cond b 1 0 + times_of q (map (renamed r q) xs)) (other_number x q (absent q x xs none).0) in
        let m : times_of r (x ∷ xs) ≡ 0 + times_of r xs = times_cons r x xs ∙ ap (λ b. cond b 1 0 + times_of r xs) e in
        omega (arith, k, m, more)

may_stand : (one other : Bool) (times : ℕ) → (other ≡ true → one ≡ true) → MayStand one times → MayStand other times
may_stand true true times f h = h
may_stand true false times f h = omega (arith, h)
may_stand false true times f h = let e = f refl in cc
may_stand false false times f h = h

module _ {S W : Type 0} (after : S → W → Option S) (log : List (Operation W)) (forwards : RunForwards log) (r q : ℕ) (a b : Operation W)
    (ra : slice_get log r ≡ Some a) (qb : slice_get log q ≡ Some b) (h : IsInPlaceOf after a b) (ne : r ≢ q) where
  made : (s : S) (rest : List ℕ) → CanMake after log s rest → CanMake after log s (map (renamed r q) rest)
  made s [] can = tt
  made s (x ∷ xs) can = by_test (nat_eq x r) refl (made can.1 xs can.4)
    where
      by_test : (z : Bool) → nat_eq x r ≡ z → CanMake after log can.1 (map (renamed r q) xs) →
          CanMake after log s (map (renamed r q) (x ∷ xs))
      by_test true e more =
          let there : slice_get log x ≡ Some a = ap (slice_get log) (same_if x r e) ∙ ra in
          let same : can.0 ≡ a = same_Some can.0 a (sym can.2 ∙ there) in
          let step : after s b.what ≡ Some can.1 = sym (h.same s) ∙ (ap (λ (z : Operation W). after s z.what) (sym same) ∙ can.3) in
          let P : Bool → Type 0 = λ z. CanMake after log s (cond z q x ∷ map (renamed r q) xs) in
          subst P (sym e) (b, can.1, qb, step, more)
      by_test false e more =
          let P : Bool → Type 0 = λ z. CanMake after log s (cond z q x ∷ map (renamed r q) xs) in
          subst P (sym e) (can.0, can.1, can.2, can.3, more)

  -- what b precedes a precedes
  before : (x : Operation W) → Precedes b x → Precedes a x
  before x p =
      let w = ends_before b.ends x.starts p in
      let s = h.sooner w.0 w.1 in ended_before a.ends s.0 x.starts s.1 (omega (arith, s.2, w.2))

  not_before_itself : ¬ Precedes b b
  not_before_itself p = let w = ends_before b.ends b.starts p in let f = forwards q w.0 b qb w.1 in omega (arith, f, w.2)

  kept : (rest : List ℕ) → times_of q rest ≡ 0 →
      ((z : ℕ) (c : Operation W) → 0 < times_of z rest → slice_get log z ≡ Some c → ¬ Precedes c b) →
      KeepsPrecedence log rest → KeepsPrecedence log (map (renamed r q) rest)
  kept [] none late k = tt
  kept (x ∷ xs) none late k = (first, kept xs (absent q x xs none).1 (λ z c l. late z c (behind z l)) k.1)
    where
      behind : (z : ℕ) → 0 < times_of z xs → 0 < times_of z (x ∷ xs)
      behind z l = let e = times_cons z x xs in omega (arith, e, l)

      -- what stands behind is q, for r, or was there
      source : (z : ℕ) → 0 < times_of z (map (renamed r q) xs) → ((z ≡ q) × (0 < times_of r xs)) ⊎ ((z ≢ q) × (0 < times_of z xs))
      source z l = elim (cases_eq q z) [
        | inl e ↦
            let there = times_there r q xs (absent q x xs none).1 in
            let P : ℕ → Type 0 = λ n. 0 < times_of n (map (renamed r q) xs) in
            let l' : 0 < times_of q (map (renamed r q) xs) = subst P (sym e) l in inl (sym e, omega (arith, there, l'))
        | inr nq ↦ elim (cases_eq r z) [
          | inl e ↦
              let gone = times_gone r q ne xs in
              let P : ℕ → Type 0 = λ n. 0 < times_of n (map (renamed r q) xs) in
              let l' : 0 < times_of r (map (renamed r q) xs) = subst P (sym e) l in absurd (omega (arith, gone, l'))
          | inr nr ↦ let same = times_other r q z nr nq xs in inr (λ s. nq (sym s), omega (arith, same, l))
        ]
      ]

      -- the first is b, or what it was
      behind_b : (z : ℕ) (c : Operation W) → 0 < times_of z (map (renamed r q) xs) → slice_get log z ≡ Some c → ¬ Precedes c b
      behind_b z c l zc = elim (source z l) [
        | inl s ↦
            let same : b ≡ c = same_Some b c (sym qb ∙ (ap (slice_get log) (sym s.0) ∙ zc)) in
            let P : Operation W → Type 0 = λ o. ¬ Precedes o b in subst P same not_before_itself
        | inr s ↦ late z c (behind z s.1) zc
      ]

      behind_x : (z : ℕ) (c d : Operation W) → 0 < times_of z (map (renamed r q) xs) → slice_get log z ≡ Some c →
          slice_get log x ≡ Some d → ¬ Precedes c d
      behind_x z c d l zc xd = elim (source z l) [
        | inl s ↦
            let same : b ≡ c = same_Some b c (sym qb ∙ (ap (slice_get log) (sym s.0) ∙ zc)) in
            let P : Operation W → Type 0 = λ o. ¬ Precedes o d in subst P same (λ p. k.0 r a d s.1 ra xd (before d p))
        | inr s ↦ k.0 z c d s.1 zc xd
      ]

      first : NonePrecedes log (map (renamed r q) xs) (renamed r q x)
      first z c d l zc xd = by_test (nat_eq x r) refl xd
        where
          by_test : (t : Bool) → nat_eq x r ≡ t → slice_get log (cond (nat_eq x r) q x) ≡ Some d → ¬ Precedes c d
          by_test true e g =
              let g' : slice_get log q ≡ Some d = ap (λ t. slice_get log (cond t q x)) (sym e) ∙ g in
              let same : b ≡ d = same_Some b d (sym qb ∙ g') in
              let P : Operation W → Type 0 = λ o. ¬ Precedes c o in subst P same (behind_b z c l zc)
          by_test false e g =
              let g' : slice_get log x ≡ Some d = ap (λ t. slice_get log (cond t q x)) (sym e) ∙ g in behind_x z c d l zc g'

  -- the rest, where r is placed for q
  pub in_place : (f : ℕ → Bool) (end : ℕ) → NoOpenEndBefore log f end → b.starts ≤ end → f q ≡ false → f r ≡ false → (t : S)
      (rest : List ℕ) → IsRest after log (λ z. f z || nat_eq z q) t rest →
      IsRest after log (λ z. f z || nat_eq z r) t (map (renamed r q) rest)
  in_place f end last starts fq fr t rest i =
      record { listing = listing; precedence = kept rest none late i.precedence; steps = made t rest i.steps }
    where
      zero : (g due : Bool) (times : ℕ) → g ≡ true → MayStandBehind g due times → times ≡ 0
      zero true due times e m = m
      zero false due times e m = cc

      none : times_of q rest ≡ 0
      none = zero (f q || nat_eq q q) (is_due b) (times_of q rest) (or_right (f q) (nat_eq q q) (same_number q)) (i.listing q b qb)

      late : (z : ℕ) (c : Operation W) → 0 < times_of z rest → slice_get log z ≡ Some c → ¬ Precedes c b
      late z c l zc p =
          let free = either_or (f z) (nat_eq z q) (open_where (f z || nat_eq z q) (is_due c) (times_of z rest) (i.listing z c zc) l) in
          let w = ends_before c.ends b.starts p in
          let le = last z w.0 c free zc w.1 in omega (arith, w.2, le, starts)

      open_listing : (g due : Bool) (times : ℕ) → g ≡ false → MayStandBehind g due times → MayStand due times
      open_listing true due times e m = cc
      open_listing false due times e m = m

      listing : (p : ℕ) (o : Operation W) → slice_get log p ≡ Some o →
          MayStandBehind (f p || nat_eq p r) (is_due o) (times_of p (map (renamed r q) rest))
      listing p o po = elim (cases_eq r p) [
        | inl e ↦
            let shut : (f p || nat_eq p r) ≡ true = or_right (f p) (nat_eq p r) (ap (nat_eq p) e ∙ same_number p) in
            let P : Bool → Type 0 = λ g. MayStandBehind g (is_due o) (times_of p (map (renamed r q) rest)) in
            subst P (sym shut) (ap (λ z. times_of z (map (renamed r q) rest)) (sym e) ∙ times_gone r q ne rest)
        | inr nr ↦ elim (cases_eq q p) [
          | inl e ↦
              let free : (f p || nat_eq p r) ≡ false =
              or_left (f p) (nat_eq p r) (other_number p r (λ s. nr (sym s))) ∙ (ap f (sym e) ∙ fq) in
              let same : b ≡ o = same_Some b o (sym qb ∙ (ap (slice_get log) e ∙ po)) in
              let open_r : (f r || nat_eq r q) ≡ false = or_left (f r) (nat_eq r q) (other_number r q ne) ∙ fr in
              let at_r : MayStand (is_due a) (times_of r rest) =
              open_listing (f r || nat_eq r q) (is_due a) (times_of r rest) open_r (i.listing r a ra) in
              let at_q : MayStand (is_due o) (times_of r rest) =
              may_stand (is_due a) (is_due o) (times_of r rest) (λ d. h.due (ap is_due same ∙ d)) at_r in
              let times : times_of p (map (renamed r q) rest) ≡ times_of r rest =
              ap (λ z. times_of z (map (renamed r q) rest)) (sym e) ∙ times_there r q rest none in
              let P : Bool → Type 0 = λ g. MayStandBehind g (is_due o) (times_of p (map (renamed r q) rest)) in
              let Q : ℕ → Type 0 = λ n. MayStand (is_due o) n in subst P (sym free) (subst Q (sym times) at_q)
          | inr nq ↦
              let same : (f p || nat_eq p r) ≡ (f p || nat_eq p q) =
              or_left (f p) (nat_eq p r) (other_number p r (λ s. nr (sym s)))
              ∙ sym (or_left (f p) (nat_eq p q) (other_number p q (λ s. nq (sym s)))) in
              let P : Bool → Type 0 = λ g. MayStandBehind g (is_due o) (times_of p (map (renamed r q) rest)) in
              let Q : ℕ → Type 0 = λ n. MayStandBehind (f p || nat_eq p q) (is_due o) n in
              subst P (sym same) (subst Q (sym (times_other r q p nr nq rest)) (i.listing p o po))
        ]
      ]
