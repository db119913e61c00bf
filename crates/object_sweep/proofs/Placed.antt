-- One operation is placed: what may follow, both ways.
use Rattle.std.proofs.Common.{◌≡◌, ◌≢◌, ℕ, ◌+◌, ◌<◌, ◌≤◌, Bool, true, false, cond, not, ◌&&◌, ◌||◌, nat_eq, List, [], ◌∷◌}
use Rattle.std.proofs.Common.{slice_get, is_some, Option, None, Some, refl, sym, ◌∙◌, ap, subst, arith, ◌⊎◌, inl, inr}
use Rattle.std.proofs.lemmas.Bool.{cases_Bool, cases_eq, cases_lt}
use Rattle.std.proofs.lemmas.Bool.Decides.{nat_tests}
use Rattle.std.proofs.lemmas.Option.{same_Some}
use Rattle.std.specs.Prelude.{IsSomeAnd}
use Rattle.history_core.proofs.Listing.{times_cons}
use Rattle.history_core.specs.Orders.{times_of}
use Rattle.object_core.specs.declared.operation.Operation.{Operation}
use Rattle.object_core.specs.Logs.{is_due, NonePrecedes}
use Rattle.object_sweep.specs.Rests.{CanFinish, CanPlace, IsRest, MayStandBehind, NoOpenEndBefore, RunForwards}

-- a number and itself, and two numbers
pub same_number : (p : ℕ) → nat_eq p p ≡ true
same_number p = grind (arith, nat_tests)

pub other_number : (p q : ℕ) → p ≢ q → nat_eq p q ≡ false
other_number p q ne = grind (arith, nat_tests)

-- an entry more in front
pub times_here : (p : ℕ) (rest : List ℕ) → times_of p (p ∷ rest) ≡ 1 + times_of p rest
times_here p rest = times_cons p p rest ∙ ap (λ b. cond b 1 0 + times_of p rest) (same_number p)

pub times_there : (p x : ℕ) (rest : List ℕ) → x ≢ p → times_of p (x ∷ rest) ≡ times_of p rest
times_there p x rest ne = times_cons p x rest ∙ ap (λ b. cond b 1 0 + times_of p rest) (other_number x p ne) ∙ omega arith

-- how often an operation may follow
none_follows : (f due : Bool) (times : ℕ) → f ≡ true → MayStandBehind f due times → times ≡ 0
none_follows true due times e h = h
none_follows false due times e h = cc

one_follows : (f due : Bool) (times : ℕ) → MayStandBehind f due times → times ≤ 1
one_follows true due times h = omega arith
one_follows false true times h = omega arith
one_follows false false times h = h

once_follows : (f due : Bool) (times : ℕ) → f ≡ false → times ≡ 1 → MayStandBehind f due times
once_follows true due times e h = cc
once_follows false true times e h = h
once_follows false false times e h = omega arith

-- where it stands, it may
pub open_where : (f due : Bool) (times : ℕ) → MayStandBehind f due times → 0 < times → f ≡ false
open_where true due times h l = absurd (omega arith)
open_where false due times h l = refl

pub either_or : (a b : Bool) → (a || b) ≡ false → a ≡ false
either_or true b e = cc
either_or false b e = refl

pub or_right : (a b : Bool) → b ≡ true → (a || b) ≡ true
or_right true b e = refl
or_right false b e = e

pub or_left : (a b : Bool) → b ≡ false → (a || b) ≡ a
or_left true b e = refl
or_left false b e = e

pub ends_before : (ends : Option ℕ) (n : ℕ) → IsSomeAnd ends (λ end. end < n) → (end : ℕ) × (ends ≡ Some end) × (end < n)
ends_before None n h = absurd h
ends_before (Some end) n h = (end, refl, h)

pub ended_before : (ends : Option ℕ) (end n : ℕ) → ends ≡ Some end → end < n → IsSomeAnd ends (λ end. end < n)
ended_before ends end n e l = let P : Option ℕ → Type 0 = λ z. IsSomeAnd z (λ end. end < n) in subst P (sym e) l

module _ {S W : Type 0} (after : S → W → Option S) (log : List (Operation W)) where
  -- placing is sound
  pub sound : (f : ℕ → Bool) (end : ℕ) → NoOpenEndBefore log f end → (s : S) (q : ℕ) (t : S) → CanPlace after log f end s q t →
      CanFinish after log (λ r. f r || nat_eq r q) t → CanFinish after log f s
  sound f end last s q t can h =
      (q ∷ h.0, record { listing = listing; precedence = (first, h.1.precedence); steps = (can.0, t, can.1, can.4, h.1.steps) })
    where
      listing : (p : ℕ) (o : Operation W) → slice_get log p ≡ Some o → MayStandBehind (f p) (is_due o) (times_of p (q ∷ h.0))
      listing p o at = elim (cases_eq q p) [
        | inl e ↦
            let free : f p ≡ false = ap f (sym e) ∙ can.2 in
            let shut : (f p || nat_eq p q) ≡ true = or_right (f p) (nat_eq p q) (ap (nat_eq p) e ∙ same_number p) in
            let zero : times_of p h.0 ≡ 0 = none_follows (f p || nat_eq p q) (is_due o) (times_of p h.0) shut (h.1.listing p o at) in
            let here : times_of p (q ∷ h.0) ≡ times_of p (p ∷ h.0) = ap (λ z. times_of p (z ∷ h.0)) e in
            once_follows (f p) (is_due o) (times_of p (q ∷ h.0)) free (here ∙ times_here p h.0 ∙ ap (λ n. 1 + n) zero ∙ omega arith)
        | inr ne ↦
            let P : ℕ → Type 0 = λ n. MayStandBehind (f p) (is_due o) n in
            let Q : Bool → Type 0 = λ b. MayStandBehind b (is_due o) (times_of p h.0) in
            let same : (f p || nat_eq p q) ≡ f p = or_left (f p) (nat_eq p q) (other_number p q (λ e. ne (sym e))) in
            subst P (sym (times_there p q h.0 ne)) (subst Q same (h.1.listing p o at))
      ]

      first : NonePrecedes log h.0 q
      first r a b stood ra qb before =
          let free : f r ≡ false =
          either_or (f r) (nat_eq r q) (open_where (f r || nat_eq r q) (is_due a) (times_of r h.0) (h.1.listing r a ra) stood) in
          let w = ends_before a.ends b.starts before in
          let le : end ≤ w.0 = last r w.0 a free ra w.1 in
          let same : can.0 ≡ b = same_Some can.0 b (sym can.1 ∙ qb) in
          let starts : can.0.starts ≡ b.starts = ap (λ (z : Operation W). z.starts) same in
          omega (arith, w.2, le, starts, can.3)

  -- and complete: where an operation follows, the first that does can be placed, and began by its end
  pub complete_tail : RunForwards log → (f : ℕ → Bool) (end p : ℕ) (o : Operation W) → slice_get log p ≡ Some o → o.ends ≡ Some end →
      (s : S) (q : ℕ) (rest : List ℕ) → IsRest after log f s (q ∷ rest) → 0 < times_of p (q ∷ rest) →
      (t : S) × CanPlace after log f end s q t × IsRest after log (λ r. f r || nat_eq r q) t rest
  complete_tail forwards f end p o at ends s q rest h stood = (
    h.steps.1,
    (h.steps.0, h.steps.2, free, starts, h.steps.3),
    record { listing = listing; precedence = h.precedence.1; steps = h.steps.4 },
  )
    where
      here : times_of q (q ∷ rest) ≡ 1 + times_of q rest
      here = times_here q rest

      free : f q ≡ false
      free = open_where (f q) (is_due h.steps.0) (times_of q (q ∷ rest)) (h.listing q h.steps.0 h.steps.2) (omega (arith, here))

      starts : h.steps.0.starts ≤ end
      starts = elim (cases_eq q p) [
        | inl e ↦
            let there : slice_get log q ≡ Some o = ap (slice_get log) e ∙ at in
            let same : o ≡ h.steps.0 = same_Some o h.steps.0 (sym there ∙ h.steps.2) in
            let P : Operation W → Type 0 = λ z. z.starts ≤ end in
            subst P same (forwards p end o at ends)
        | inr ne ↦ elim (cases_lt end h.steps.0.starts) [
          | inl l ↦ absurd (h.precedence.0 p o h.steps.0 (behind ne) at h.steps.2 (ended_before o.ends end h.steps.0.starts ends l))
          | inr le ↦ le
        ]
      ]
        where
          behind : q ≢ p → 0 < times_of p rest
          behind ne = let e = times_there p q rest ne in omega arith

      listing : (r : ℕ) (a : Operation W) → slice_get log r ≡ Some a → MayStandBehind (f r || nat_eq r q) (is_due a) (times_of r rest)
      listing r a ra = elim (cases_eq q r) [
        | inl e ↦
            let shut : (f r || nat_eq r q) ≡ true = or_right (f r) (nat_eq r q) (ap (nat_eq r) e ∙ same_number r) in
            let most : times_of q (q ∷ rest) ≤ 1 =
            one_follows (f q) (is_due h.steps.0) (times_of q (q ∷ rest)) (h.listing q h.steps.0 h.steps.2) in
            let zero : times_of q rest ≡ 0 = omega (arith, here, most) in
            let P : Bool → Type 0 = λ b. MayStandBehind b (is_due a) (times_of r rest) in
            subst P (sym shut) (ap (λ z. times_of z rest) (sym e) ∙ zero)
        | inr ne ↦
            let P : ℕ → Type 0 = λ n. MayStandBehind (f r) (is_due a) n in
            let Q : Bool → Type 0 = λ b. MayStandBehind b (is_due a) (times_of r rest) in
            let same : (f r || nat_eq r q) ≡ f r = or_left (f r) (nat_eq r q) (other_number r q (λ e. ne (sym e))) in
            subst Q (sym same) (subst P (times_there r q rest ne) (h.listing r a ra))
      ]

  pub complete : RunForwards log → (f : ℕ → Bool) (end p : ℕ) (o : Operation W) → slice_get log p ≡ Some o → o.ends ≡ Some end →
      (s : S) (rest : List ℕ) → IsRest after log f s rest → 0 < times_of p rest →
      (q : ℕ) × (t : S) × CanPlace after log f end s q t × CanFinish after log (λ r. f r || nat_eq r q) t
  complete forwards f end p o at ends s [] h stood = let z : times_of p [] ≡ 0 = refl in absurd (omega arith)
  complete forwards f end p o at ends s (q ∷ rest) h stood =
      let c = complete_tail forwards f end p o at ends s q rest h stood in (q, c.0, c.1, (rest, c.2))

  -- without one that may have done nothing, and doesn't follow
  pub dropped : (f : ℕ → Bool) (p end : ℕ) (o : Operation W) → slice_get log p ≡ Some o → o.ends ≡ Some end → (s : S) (rest : List ℕ) →
      IsRest after log f s rest → times_of p rest ≡ 0 → f p ≡ false → (o.maybe ≡ true) × CanFinish after log (λ r. f r || nat_eq r p) s
  dropped f p end o at ends s rest h none free =
      (by_due (cases_Bool o.maybe), (rest, record { listing = listing; precedence = h.precedence; steps = h.steps }))
    where
      due_follows : (g due : Bool) (times : ℕ) → g ≡ false → due ≡ true → MayStandBehind g due times → times ≡ 1
      due_follows true due times e d m = cc
      due_follows false true times e d m = m
      due_follows false false times e d m = cc

      by_due : (o.maybe ≡ true) ⊎ (o.maybe ≡ false) → o.maybe ≡ true
      by_due (inl e) = e
      by_due (inr e) =
          let due : is_due o ≡ true = ap (λ z. is_some z && not o.maybe) ends ∙ ap not e in
          let one : times_of p rest ≡ 1 = due_follows (f p) (is_due o) (times_of p rest) free due (h.listing p o at) in
          absurd (omega arith)

      listing : (r : ℕ) (a : Operation W) → slice_get log r ≡ Some a → MayStandBehind (f r || nat_eq r p) (is_due a) (times_of r rest)
      listing r a ra = elim (cases_eq p r) [
        | inl e ↦
            let shut : (f r || nat_eq r p) ≡ true = or_right (f r) (nat_eq r p) (ap (nat_eq r) e ∙ same_number r) in
            let P : Bool → Type 0 = λ b. MayStandBehind b (is_due a) (times_of r rest) in
            subst P (sym shut) (ap (λ z. times_of z rest) (sym e) ∙ none)
        | inr ne ↦
            let Q : Bool → Type 0 = λ b. MayStandBehind b (is_due a) (times_of r rest) in
            let same : (f r || nat_eq r p) ≡ f r = or_left (f r) (nat_eq r p) (other_number r p (λ e. ne (sym e))) in
            subst Q (sym same) (h.listing r a ra)
      ]

  -- and the other way round
  pub undropped : (f : ℕ → Bool) (p : ℕ) (o : Operation W) → slice_get log p ≡ Some o → o.maybe ≡ true → f p ≡ false → (s : S) →
      CanFinish after log (λ r. f r || nat_eq r p) s → CanFinish after log f s
  undropped f p o at maybe free s h = (h.0, record { listing = listing; precedence = h.1.precedence; steps = h.1.steps })
    where
      perhaps : (g due : Bool) (times : ℕ) → g ≡ false → due ≡ false → times ≡ 0 → MayStandBehind g due times
      perhaps true due times e d z = cc
      perhaps false true times e d z = cc
      perhaps false false times e d z = omega arith

      not_due : (some : Bool) → (some && not true) ≡ false
      not_due true = refl
      not_due false = refl

      listing : (r : ℕ) (a : Operation W) → slice_get log r ≡ Some a → MayStandBehind (f r) (is_due a) (times_of r h.0)
      listing r a ra = elim (cases_eq p r) [
        | inl e ↦
            let shut : (f r || nat_eq r p) ≡ true = or_right (f r) (nat_eq r p) (ap (nat_eq r) e ∙ same_number r) in
            let zero : times_of r h.0 ≡ 0 = none_follows (f r || nat_eq r p) (is_due a) (times_of r h.0) shut (h.1.listing r a ra) in
            let same : o ≡ a = same_Some o a (sym at ∙ ap (slice_get log) e ∙ ra) in
            let P : Operation W → Type 0 = λ z. is_due z ≡ false in
            let due : is_due a ≡ false = subst P same (ap (λ m. is_some o.ends && not m) maybe ∙ not_due (is_some o.ends)) in
            perhaps (f r) (is_due a) (times_of r h.0) (ap f (sym e) ∙ free) due zero
        | inr ne ↦
            let Q : Bool → Type 0 = λ b. MayStandBehind b (is_due a) (times_of r h.0) in
            let same : (f r || nat_eq r p) ≡ f r = or_left (f r) (nat_eq r p) (other_number r p (λ e. ne (sym e))) in
            subst Q same (h.1.listing r a ra)
      ]
