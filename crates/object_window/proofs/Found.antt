-- What each step over a log or its places finds.
use Rattle.std.proofs.Common.{◌≡◌, ℕ, ◌+◌, ◌<◌, false, List, [], ◌∷◌, ◌++◌, length, get_or, slice_get, zero, suc}
use Rattle.std.proofs.Common.{Option, None, Some, refl, sym, ◌∙◌, ap, subst, arith, inl, inr}
use Rattle.std.specs.Prelude.{IfSome}
use Rattle.std.proofs.lemmas.Bool.{cases_eq, cases_lt}
use Rattle.std.proofs.lemmas.Option.{same_Some, slice_get_within, slice_get-get_or}
use Rattle.object_core.specs.declared.operation.Operation.{Operation}
use Rattle.object_registers.specs.declared.exchanging.Exchange.{Exchange}
use Rattle.object_registers.specs.declared.exchanging.Exchange.TheVariants.{Sets}
use Rattle.object_sweep.specs.Reached.{is_in}
use Rattle.object_sweep.proofs.Lists.{get_front, get_last}
use Rattle.object_window.specs.Windows.{AreSeen, DoRise, NeedNotBeThere, seen}
use Rattle.object_window.specs.inner.Parts.{IsLessAt}

-- what is said of a value if there is one
pub some_has : {X : Type 0} (m : Option X) (P : X → Type 0) (x : X) → IfSome m P → m ≡ Some x → P x
some_has m P x h e = subst (λ z. IfSome z P) e h

-- each place is less than the next one, and so than all behind it
pub all_rise : (places : List ℕ) → ((i : ℕ) → IsLessAt places i (i + 1)) → DoRise places
all_rise places next i zero p q l ip jq = absurd (omega (arith, l))
all_rise places next i (suc j) p q l ip jq = elim (cases_eq i j) [
  | inl e ↦
      let P : ℕ → Type 0 = λ z. slice_get places z ≡ Some p in
      let Q : ℕ → Type 0 = λ z. slice_get places z ≡ Some q in
      let same : suc j ≡ j + 1 = omega arith in
      next j p q (subst P e ip) (subst Q same jq)
  | inr ne ↦
      let Q : ℕ → Type 0 = λ z. slice_get places z ≡ Some q in
      let same : suc j ≡ j + 1 = omega arith in
      let within = slice_get_within places (suc j) q jq in
      let there : slice_get places j ≡ Some (get_or places j 0) = slice_get-get_or places j 0 (omega (arith, within)) in
      let less : p < get_or places j 0 = all_rise places next i j p (get_or places j 0) (omega (arith, l, ne)) ip there in
      let more : get_or places j 0 < q = next j (get_or places j 0) q there (subst Q same jq) in
      omega (arith, less, more)
]

-- what holds of all at places before one, and of that one
pub and_there : {X : Type 0} (P : X → Type 0) (xs : List X) (n : ℕ) (x : X) → slice_get xs n ≡ Some x → P x →
    ((i : ℕ) (y : X) → i < n → slice_get xs i ≡ Some y → P y) → (i : ℕ) (y : X) → i < n + 1 → slice_get xs i ≡ Some y → P y
and_there P xs n x at h yet i y l iy = elim (cases_lt i n) [
  | inl less ↦ yet i y less iy
  | inr le ↦
      let e : i ≡ n = omega (arith, l, le) in
      subst P (same_Some x y (sym at ∙ (ap (slice_get xs) (sym e) ∙ iy))) h
]

-- the others at places before one, and that one
module _ (places : List ℕ) (first last : ℕ) (little : List (Operation Exchange)) where
  pub and_excused : (log : List (Operation Exchange)) (n : ℕ) (x : Operation Exchange) → slice_get log n ≡ Some x →
      (is_in n places ≡ false → NeedNotBeThere first last little x) →
      ((q : ℕ) (o : Operation Exchange) → q < n → slice_get log q ≡ Some o → is_in q places ≡ false →
      NeedNotBeThere first last little o) → (q : ℕ) (o : Operation Exchange) → q < n + 1 → slice_get log q ≡ Some o →
      is_in q places ≡ false → NeedNotBeThere first last little o
  and_excused log n x at h yet q o l qo none = elim (cases_lt q n) [
    | inl less ↦ yet q o less qo none
    | inr le ↦
        let e : q ≡ n = omega (arith, l, le) in
        let P : ℕ → Type 0 = λ z. is_in z places ≡ false in
        let Q : Operation Exchange → Type 0 = λ z. NeedNotBeThere first last little z in
        subst Q (same_Some x o (sym at ∙ (ap (slice_get log) (sym e) ∙ qo))) (h (subst P e none))
  ]

one_longer : {X : Type 0} (xs : List X) (x : X) → length (xs ++ x ∷ []) ≡ length xs + 1
one_longer [] x = refl
one_longer (y ∷ xs) x = let e = one_longer xs x in omega (arith, e)

-- what a slice has where it has nothing
abbrev pub no_op : Operation Exchange
no_op = record { starts = 0; ends = None; maybe = false; what = Sets 0 }

-- the operations at the first so many places
pub record AreSeenUpTo (n first last : ℕ) (places : List ℕ) (log little : List (Operation Exchange)) : Type 0 where
  pub long : length little ≡ n
  pub each : (i p : ℕ) → i < n → slice_get places i ≡ Some p →
      (o : Operation Exchange) × (slice_get log p ≡ Some o) × (slice_get little i ≡ Some (seen first last o))

pub none_seen : (first last : ℕ) (places : List ℕ) (log little : List (Operation Exchange)) → little ≡ [] →
    AreSeenUpTo 0 first last places log little
none_seen first last places log little e = record { long = ap length e; each = λ i p l ip. absurd (omega (arith, l)) }

pub one_seen : (n first last : ℕ) (places : List ℕ) (log little more : List (Operation Exchange)) →
    AreSeenUpTo n first last places log little → (p : ℕ) → slice_get places n ≡ Some p → (o : Operation Exchange) →
    slice_get log p ≡ Some o → more ≡ little ++ seen first last o ∷ [] → AreSeenUpTo (n + 1) first last places log more
one_seen n first last places log little more yet p at o there e = subst P (sym e) (record { long = long; each = each })
  where
    P : List (Operation Exchange) → Type 0
    P = λ z. AreSeenUpTo (n + 1) first last places log z

    long : length (little ++ seen first last o ∷ []) ≡ n + 1
    long = one_longer little (seen first last o) ∙ ap (λ m. m + 1) yet.long

    each : (i q : ℕ) → i < n + 1 → slice_get places i ≡ Some q →
        (a : Operation Exchange) × (slice_get log q ≡ Some a) × (slice_get (little ++ seen first last o ∷ []) i ≡ Some (seen first last a))
    each i q l iq = elim (cases_lt i n) [
      | inl less ↦
          let w = yet.each i q less iq in
          (w.0, w.1, get_front little (seen first last o ∷ []) i (seen first last w.0) w.2)
      | inr le ↦
          let e : i ≡ n = omega (arith, l, le) in
          let same : p ≡ q = same_Some p q (sym at ∙ (ap (slice_get places) (sym e) ∙ iq)) in
          let here : i ≡ length little = e ∙ sym yet.long in (
            o,
            ap (slice_get log) (sym same) ∙ there,
            ap (slice_get (little ++ seen first last o ∷ [])) here ∙ get_last little (seen first last o),
          )
    ]

pub all_seen : (first last : ℕ) (places : List ℕ) (log little : List (Operation Exchange)) (n : ℕ) → n ≡ length places →
    AreSeenUpTo n first last places log little → AreSeen first last places log little
all_seen first last places log little n e h = record {
  long = h.long ∙ e;
  each = λ i p ip. h.each i p (let l = slice_get_within places i p ip in omega (arith, l, e)) ip;
}
