-- An order is cut behind the last entry that ended before a moment.
use Rattle.std.proofs.Common.{◌≡◌, ℕ, ◌+◌, ◌<◌, ◌≤◌, Bool, true, false, ◌||◌, cond, nat_lt, List, [], ◌∷◌}
use Rattle.std.proofs.Common.{◌++◌, slice_get, Option, None, Some, refl, sym, ◌∙◌, ap, subst, arith, ◌⊎◌, inl, inr}
use Rattle.std.proofs.lemmas.Bool.{cases_eq, cases_lt, or_cases, or_parts}
use Rattle.std.proofs.lemmas.Bool.Decides.{nat_tests}
use Rattle.std.proofs.lemmas.Option.{same_Some}
use Rattle.history_core.proofs.Listing.{times_cons}
use Rattle.history_core.specs.Orders.{times_of}
use Rattle.object_core.specs.declared.operation.Operation.{Operation}
use Rattle.object_core.specs.Logs.{CanMake, is_due, IsLawfulOrder, KeepsPrecedence, MayStand, NonePrecedes}
use Rattle.object_sweep.specs.Rests.{RunForwards}
use Rattle.object_sweep.proofs.Placed.{ended_before, times_here, times_there}

-- in two parts
pub times_parts : (q : ℕ) (xs ys : List ℕ) → times_of q (xs ++ ys) ≡ times_of q xs + times_of q ys
times_parts q [] ys = let z : times_of q [] ≡ 0 = refl in omega (arith, z)
times_parts q (x ∷ xs) ys =
    let e = times_cons q x (xs ++ ys) in
    let f = times_cons q x xs in
    let more = times_parts q xs ys in omega (arith, e, f, more)

module _ (f : ℕ → Bool) where
  abbrev pub any_of : List ℕ → Bool
  any_of [] = false
  any_of (p ∷ rest) = f p || any_of rest

  -- up to the last one that passes the test, and behind it
  abbrev pub front : List ℕ → List ℕ
  front [] = []
  front (p ∷ rest) = cond (f p || any_of rest) (p ∷ front rest) []

  abbrev pub back : List ℕ → List ℕ
  back [] = []
  back (p ∷ rest) = cond (f p || any_of rest) (back rest) (p ∷ rest)

  pub parts : (order : List ℕ) → front order ++ back order ≡ order
  parts [] = refl
  parts (p ∷ rest) = by_any (f p || any_of rest) (parts rest)
    where
      by_any : (b : Bool) → front rest ++ back rest ≡ rest → cond b (p ∷ front rest) [] ++ cond b (back rest) (p ∷ rest) ≡ p ∷ rest
      by_any true more = ap (λ zs. p ∷ zs) more
      by_any false more = refl

  nothing : (order : List ℕ) → any_of order ≡ false → (q : ℕ) → 0 < times_of q order → f q ≡ false
  nothing [] e q l = let z : times_of q [] ≡ 0 = refl in absurd (omega (arith, z, l))
  nothing (p ∷ rest) e q l = elim (cases_eq p q) [
    | inl s ↦ let P : ℕ → Type 0 = λ z. f z ≡ false in subst P s (or_parts (f p) (any_of rest) e).0
    | inr ne ↦
        let there = times_there q p rest ne in
        nothing rest (or_parts (f p) (any_of rest) e).1 q (omega (arith, there, l))
  ]

  pub none_behind : (order : List ℕ) (q : ℕ) → 0 < times_of q (back order) → f q ≡ false
  none_behind [] q l = let z : times_of q [] ≡ 0 = refl in absurd (omega (arith, z, l))
  none_behind (p ∷ rest) q l = by_any (f p || any_of rest) refl l (none_behind rest q)
    where
      by_any : (b : Bool) → (f p || any_of rest) ≡ b → 0 < times_of q (cond b (back rest) (p ∷ rest)) →
          (0 < times_of q (back rest) → f q ≡ false) → f q ≡ false
      by_any true e m more = more m
      by_any false e m more = nothing (p ∷ rest) e q m

  pub some_of : (order : List ℕ) → any_of order ≡ true → (e : ℕ) × (f e ≡ true) × (0 < times_of e order)
  some_of [] h = cc
  some_of (p ∷ rest) h = by_cases (or_cases (f p) (any_of rest) h) (some_of rest)
    where
      by_cases : (f p ≡ true) ⊎ (any_of rest ≡ true) → (any_of rest ≡ true → (e : ℕ) × (f e ≡ true) × (0 < times_of e rest)) →
          (e : ℕ) × (f e ≡ true) × (0 < times_of e (p ∷ rest))
      by_cases (inl e) more = let here = times_here p rest in (p, e, omega (arith, here))
      by_cases (inr e) more = let m = more e in let c = times_cons m.0 p rest in (m.0, m.1, omega (arith, c, m.2))

-- what ended before the moment
module _ {W : Type 0} (log : List (Operation W)) (bound : ℕ) where
  abbrev pub end_test : Option ℕ → Bool
  end_test None = false
  end_test (Some end) = nat_lt end bound

  abbrev pub op_test : Option (Operation W) → Bool
  op_test None = false
  op_test (Some o) = end_test o.ends

  abbrev pub test : ℕ → Bool
  test p = op_test (slice_get log p)

  less : (a b : ℕ) → nat_lt a b ≡ true → a < b
  less a b e = grind (arith, nat_tests)

  tests : (a b : ℕ) → a < b → nat_lt a b ≡ true
  tests a b l = grind (arith, nat_tests)

  abbrev EndedBefore : ℕ → Type 0
  EndedBefore p = (o : Operation W) × (end : ℕ) × (slice_get log p ≡ Some o) × (o.ends ≡ Some end) × (end < bound)

  tested : (p : ℕ) → test p ≡ true → EndedBefore p
  tested p h = by_op (slice_get log p) refl h
    where
      by_end : (o : Operation W) (m : Option ℕ) → slice_get log p ≡ Some o → o.ends ≡ m → end_test m ≡ true → EndedBefore p
      by_end o None at e h = cc
      by_end o (Some end) at e h = (o, end, at, e, less end bound h)

      by_op : (m : Option (Operation W)) → slice_get log p ≡ m → op_test m ≡ true → EndedBefore p
      by_op None at h = cc
      by_op (Some o) at h = by_end o o.ends at refl h

  pub passes : (p : ℕ) (o : Operation W) (end : ℕ) → slice_get log p ≡ Some o → o.ends ≡ Some end → end < bound → test p ≡ true
  passes p o end at ends l = ap op_test at ∙ (ap end_test ends ∙ tests end bound l)

  -- whatever stands in front began before it
  pub begun : RunForwards log → (order : List ℕ) → KeepsPrecedence log order → (q : ℕ) (o : Operation W) →
      0 < times_of q (front test order) → slice_get log q ≡ Some o → o.starts < bound
  begun forwards [] k q o l at = let z : times_of q [] ≡ 0 = refl in absurd (omega (arith, z, l))
  begun forwards (p ∷ rest) k q o l at = by_any (test p || any_of test rest) refl l (λ m. begun forwards rest k.1 q o m at)
    where
      itself : (p ≡ q) → test p ≡ true → o.starts < bound
      itself s e =
          let t = tested p e in
          let same : t.0 ≡ o = same_Some t.0 o (sym t.2 ∙ (ap (slice_get log) s ∙ at)) in
          let le : t.0.starts ≤ t.1 = forwards p t.1 t.0 t.2 t.3 in
          let starts : t.0.starts ≡ o.starts = ap (λ (z : Operation W). z.starts) same in
          omega (arith, le, starts, t.4)

      later : (p ≡ q) → any_of test rest ≡ true → o.starts < bound
      later s e =
          let w = some_of test rest e in
          let t = tested w.0 w.1 in
          let here : slice_get log p ≡ Some o = ap (slice_get log) s ∙ at in
          elim (cases_lt t.1 o.starts) [
            | inl before ↦ absurd (k.0 w.0 t.0 o w.2 t.2 here (ended_before t.0.ends t.1 o.starts t.3 before))
            | inr le ↦ omega (arith, le, t.4)
          ]

      by_any : (b : Bool) → (test p || any_of test rest) ≡ b → 0 < times_of q (cond b (p ∷ front test rest) []) →
          (0 < times_of q (front test rest) → o.starts < bound) → o.starts < bound
      by_any false e m more = let z : times_of q [] ≡ 0 = refl in absurd (omega (arith, z, m))
      by_any true e m more = elim (cases_eq p q) [
        | inl s ↦ elim (or_cases (test p) (any_of test rest) e) [ inl h ↦ itself s h | inr h ↦ later s h ]
        | inr ne ↦ let there = times_there q p (front test rest) ne in more (omega (arith, there, m))
      ]

-- two parts of what can be made in order
module _ {S W : Type 0} (after : S → W → Option S) (log : List (Operation W)) where
  made_first : (s : S) (xs ys : List ℕ) → CanMake after log s (xs ++ ys) → CanMake after log s xs
  made_first s [] ys h = tt
  made_first s (x ∷ xs) ys h = (h.0, h.1, h.2, h.3, made_first h.1 xs ys h.4)

  made_last : (s : S) (xs ys : List ℕ) → CanMake after log s (xs ++ ys) → (t : S) × CanMake after log t ys
  made_last s [] ys h = (s, h)
  made_last s (x ∷ xs) ys h = made_last h.1 xs ys h.4

  kept_first : (xs ys : List ℕ) → KeepsPrecedence log (xs ++ ys) → KeepsPrecedence log xs
  kept_first [] ys h = tt
  kept_first (x ∷ xs) ys h = (first, kept_first xs ys h.1)
    where
      first : NonePrecedes log xs x
      first q a b l qa xb = let t = times_parts q xs ys in h.0 q a b (omega (arith, t, l)) qa xb

  kept_last : (xs ys : List ℕ) → KeepsPrecedence log (xs ++ ys) → KeepsPrecedence log ys
  kept_last [] ys h = h
  kept_last (x ∷ xs) ys h = kept_last xs ys h.1

  -- what of an order lies between two moments
  pub record IsMiddle (first last : ℕ) (s : S) (order : List ℕ) : Type 0 where
    pub once : (p : ℕ) (o : Operation W) → slice_get log p ≡ Some o → times_of p order ≤ 1
    pub due : (p end : ℕ) (o : Operation W) → slice_get log p ≡ Some o → is_due o ≡ true → first ≤ o.starts → o.ends ≡ Some end →
        end ≤ last → times_of p order ≡ 1
    pub late : (p end : ℕ) (o : Operation W) → slice_get log p ≡ Some o → 0 < times_of p order → o.ends ≡ Some end → first ≤ end
    pub early : (p : ℕ) (o : Operation W) → slice_get log p ≡ Some o → 0 < times_of p order → o.starts ≤ last
    pub precedence : KeepsPrecedence log order
    pub steps : CanMake after log s order

  module _ (forwards : RunForwards log) (opening : S) (order : List ℕ) (h : IsLawfulOrder after opening log order)
      (first last : ℕ) where
    -- what is left behind the first moment, and of that what comes up to the last one
    abbrev behind : List ℕ
    behind = back (test log first) order

    abbrev mid : List ℕ
    mid = front (test log (last + 1)) behind

    kept : KeepsPrecedence log behind
    kept =
        let P : List ℕ → Type 0 = λ z. KeepsPrecedence log z in
        kept_last (front (test log first) order) behind (subst P (sym (parts (test log first) order)) h.precedence)

    from : (s : S) × CanMake after log s behind
    from =
        let P : List ℕ → Type 0 = λ z. CanMake after log opening z in
        made_last opening (front (test log first) order) behind (subst P (sym (parts (test log first) order)) h.steps)

    -- how often an entry stands in each part
    count : (p : ℕ) → times_of p order ≡ times_of p (front (test log first) order) + times_of p behind
    count p = ap (times_of p) (sym (parts (test log first) order)) ∙ times_parts p (front (test log first) order) behind

    count_mid : (p : ℕ) → times_of p behind ≡ times_of p mid + times_of p (back (test log (last + 1)) behind)
    count_mid p =
        ap (times_of p) (sym (parts (test log (last + 1)) behind)) ∙ times_parts p mid (back (test log (last + 1)) behind)

    at_most : (due : Bool) (times : ℕ) → MayStand due times → times ≤ 1
    at_most true times m = omega (arith, m)
    at_most false times m = m

    once : (p : ℕ) (o : Operation W) → slice_get log p ≡ Some o → times_of p mid ≤ 1
    once p o at =
        let most = at_most (is_due o) (times_of p order) (h.listing p o at) in
        let c = count p in
        let d = count_mid p in omega (arith, most, c, d)

    due : (p end : ℕ) (o : Operation W) → slice_get log p ≡ Some o → is_due o ≡ true → first ≤ o.starts → o.ends ≡ Some end →
        end ≤ last → times_of p mid ≡ 1
    due p end o at is from_first ends by_last =
        let P : Bool → Type 0 = λ b. MayStand b (times_of p order) in
        let one : times_of p order ≡ 1 = subst P is (h.listing p o at) in
        let c = count p in
        let d = count_mid p in
        elim (cases_lt 0 (times_of p (front (test log first) order))) [
          | inl l ↦ let early = begun log first forwards order h.precedence p o l at in absurd (omega (arith, early, from_first))
          | inr none ↦ elim (cases_lt 0 (times_of p (back (test log (last + 1)) behind))) [
            | inl l ↦
                let not_passed = none_behind (test log (last + 1)) behind p l in
                let passed = passes log (last + 1) p o end at ends (omega (arith, by_last)) in cc
            | inr none_last ↦ omega (arith, one, c, d, none, none_last)
          ]
        ]

    late : (p end : ℕ) (o : Operation W) → slice_get log p ≡ Some o → 0 < times_of p mid → o.ends ≡ Some end → first ≤ end
    late p end o at l ends = elim (cases_lt end first) [
      | inl before ↦
          let d = count_mid p in
          let not_passed = none_behind (test log first) order p (omega (arith, d, l)) in
          let passed = passes log first p o end at ends before in cc
      | inr le ↦ le
    ]

    early : (p : ℕ) (o : Operation W) → slice_get log p ≡ Some o → 0 < times_of p mid → o.starts ≤ last
    early p o at l = let b = begun log (last + 1) forwards behind kept p o l at in omega (arith, b)

    precedence : KeepsPrecedence log mid
    precedence =
        let P : List ℕ → Type 0 = λ z. KeepsPrecedence log z in
        kept_first mid (back (test log (last + 1)) behind) (subst P (sym (parts (test log (last + 1)) behind)) kept)

    steps : CanMake after log from.0 mid
    steps =
        let P : List ℕ → Type 0 = λ z. CanMake after log from.0 z in
        made_first from.0 mid (back (test log (last + 1)) behind) (subst P (sym (parts (test log (last + 1)) behind)) from.1)

    pub middle : (s : S) × (some : List ℕ) × IsMiddle first last s some
    middle = (
      from.0,
      mid,
      record { once = once; due = due; late = late; early = early; precedence = precedence; steps = steps },
    )
