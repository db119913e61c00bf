-- One more step of each table's loop, over plain lists.
use Rattle.std.proofs.Common.{◌≡◌, ℕ, ◌+◌, ◌<◌, Bool, true, false, List, [], ◌∷◌, ◌++◌, length, get_or, refl, sym, ◌∙◌, ap, subst}
use Rattle.std.proofs.Common.{arith, ◌⊎◌, inl, inr, slice_get, set, replicate, Option, None, Some}
use Rattle.std.specs.BTreeMap.{BTreeMap, get, Updates}
use Rattle.std.specs.Ordering.{is_eq, nat_cmp}
use Rattle.std.proofs.lemmas.Bool.{cases_lt, cases_eq}
use Rattle.std.proofs.lemmas.Bool.Decides.{nat_tests}
use Rattle.std.proofs.lemmas.List.{get_or-replicate, length-replicate}
use Rattle.std.proofs.Common.{length-append}
use Rattle.std.specs.Option.{option_and_then}
use Rattle.std.proofs.lemmas.Option.{slice_get_within, same_Some, slice_get-get_or, get_or_from_slice_get, none-some}
use Rattle.history_core.proofs.Places.{get_last, get_pushed, get_pushed_cases}
use Rattle.history_coherence.specs.inner.Keys.{AreLast, AreMet, ArePrevious, IsPrevious, number_at}
use Rattle.history_coherence.proofs.Edges.{number_from, number_is, set_cases}

pub below_or : (p n : ℕ) → p < n + 1 → (p < n) ⊎ (p ≡ n)
below_or p n l = elim (cases_lt p n) [ inl lt ↦ inl lt | inr le ↦ inr (omega arith) ]

pub blank_is : {X : Type 0} (n : ℕ) (x y : X) (i : ℕ) → slice_get (replicate n x) i ≡ Some y → x ≡ y
blank_is n x y i e =
    let l : i < n = let k = slice_get_within (replicate n x) i y e in omega (arith, length-replicate n x) in
    sym (get_or-replicate n i x x l) ∙ get_or_from_slice_get (replicate n x) i y x e

-- what stands at a place that is read
pub number_read : (numbers : List (Option ℕ)) (p : ℕ) → p < length numbers → number_at numbers p ≡ get_or numbers p None
number_read numbers p l = number_is numbers p (get_or numbers p None) (slice_get-get_or numbers p None l)

-- ---- which numbers there are
pub met_start : (numbers : List (Option ℕ)) (n : ℕ) (met : List Bool) → met ≡ replicate n false → AreMet numbers 0 met
met_start numbers n met e = record {
  yes = λ x h. let z : false ≡ true = blank_is n false true x (ap (λ (m : List Bool). slice_get m x) (sym e) ∙ h) in cc;
  no = λ x p h l. absurd (omega arith);
}

pub met_skip : (numbers : List (Option ℕ)) (n : ℕ) (met : List Bool) → number_at numbers n ≡ None → AreMet numbers n met →
    AreMet numbers (n + 1) met
met_skip numbers n met none h = record {
  yes = λ x e. let w = h.yes x e in (w.0, let l = w.1 in omega arith, w.2);
  no = λ x p e l k. elim (below_or p n l) [
    | inl lt ↦ h.no x p e lt k
    | inr s ↦ none-some x (sym none ∙ ap (number_at numbers) (sym s) ∙ k)
  ];
}

pub met_more : (numbers : List (Option ℕ)) (n y : ℕ) (met : List Bool) → number_at numbers n ≡ Some y → y < length met →
    AreMet numbers n met → AreMet numbers (n + 1) (set met y true)
met_more numbers n y met at l h = record {
  yes = λ x e. elim (set_cases met y x true true e l) [
    | inl w ↦ (n, omega arith, at ∙ ap Some (sym w.0))
    | inr w ↦ let v = h.yes x w.1 in (v.0, let k = v.1 in omega arith, v.2)
  ];
  no = λ x p e m k. elim (set_cases met y x true false e l) [
    | inl w ↦ let z : true ≡ false = w.1 in cc
    | inr w ↦ elim (below_or p n m) [
      | inl lt ↦ h.no x p w.1 lt k
      | inr s ↦ w.0 (same_Some x y (sym k ∙ ap (number_at numbers) s ∙ at))
    ]
  ];
}

-- ---- the last place of a number
previous_skip : (numbers : List (Option ℕ)) (n x : ℕ) (found : Option ℕ) → (number_at numbers n ≡ Some x → ⊥) →
    IsPrevious numbers n x found →
    IsPrevious numbers (n + 1) x found
previous_skip numbers n x None other h = λ q l e. elim (below_or q n l) [
  | inl lt ↦ h q lt e
  | inr s ↦ other (ap (number_at numbers) (sym s) ∙ e)
]
previous_skip numbers n x (Some r) other h = (
  let l = h.0 in omega arith,
  h.1,
  λ q rq l e. elim (below_or q n l) [
    | inl lt ↦ h.2 q rq lt e
    | inr s ↦ other (ap (number_at numbers) (sym s) ∙ e)
  ],
)

previous_here : (numbers : List (Option ℕ)) (n x : ℕ) → number_at numbers n ≡ Some x → IsPrevious numbers (n + 1) x (Some n)
previous_here numbers n x e = (omega arith, e, λ q nq l k. absurd (omega arith))

pub last_start : (numbers : List (Option ℕ)) (n : ℕ) (last : List (Option ℕ)) → last ≡ replicate n None → AreLast numbers 0 last
last_start numbers n last e x found h =
    let s : None ≡ found = blank_is n None found x (ap (λ (m : List (Option ℕ)). slice_get m x) (sym e) ∙ h) in
    let P : Option ℕ → Type 0 = λ z. IsPrevious numbers 0 x z in
    subst P s (λ q l k. absurd (omega arith))

pub last_skip : (numbers : List (Option ℕ)) (n : ℕ) (last : List (Option ℕ)) → number_at numbers n ≡ None → AreLast numbers n last →
    AreLast numbers (n + 1) last
last_skip numbers n last none h x found e = previous_skip numbers n x found (λ k. none-some x (sym none ∙ k)) (h x found e)

pub last_more : (numbers : List (Option ℕ)) (n y : ℕ) (last : List (Option ℕ)) → number_at numbers n ≡ Some y → y < length last →
    AreLast numbers n last → AreLast numbers (n + 1) (set last y (Some n))
last_more numbers n y last at l h x found e = elim (set_cases last y x (Some n) found e l) [
  | inl w ↦
      let P : ℕ → Option ℕ → Type 0 = λ z o. IsPrevious numbers (n + 1) z o in
      subst (λ z. P z found) (sym w.0) (subst (λ o. P y o) w.1 (previous_here numbers n y at))
  | inr w ↦ previous_skip numbers n x found (λ k. w.0 (same_Some x y (sym k ∙ at))) (h x found w.1)
]

-- ---- the previous places
-- what the map of last places says
abbrev pub KnowsLast : List (Option ℕ) → ℕ → BTreeMap ℕ ℕ → Type 0
KnowsLast numbers n last = (x : ℕ) → IsPrevious numbers n x (get nat_cmp last x)

pub knows_skip : (numbers : List (Option ℕ)) (n : ℕ) (last : BTreeMap ℕ ℕ) → number_at numbers n ≡ None → KnowsLast numbers n last →
    KnowsLast numbers (n + 1) last
knows_skip numbers n last none h x = previous_skip numbers n x (get nat_cmp last x) (λ k. none-some x (sym none ∙ k)) (h x)

pub knows_more : (numbers : List (Option ℕ)) (n y : ℕ) (last new : BTreeMap ℕ ℕ) → number_at numbers n ≡ Some y →
    Updates nat_cmp last new y (Some n) → KnowsLast numbers n last → KnowsLast numbers (n + 1) new
knows_more numbers n y last new at up h x = elim (cases_eq x y) [
  | inl s ↦
      let e : get nat_cmp new x ≡ Some n = ap (get nat_cmp new) s ∙ up.1 in
      let P : ℕ → Option ℕ → Type 0 = λ z o. IsPrevious numbers (n + 1) z o in
      subst (λ o. P x o) (sym e) (subst (λ z. P z (Some n)) (sym s) (previous_here numbers n y at))
  | inr ne ↦
      let apart : is_eq (nat_cmp y x) ≡ false = grind (arith, nat_tests) in
      let e : get nat_cmp new x ≡ get nat_cmp last x = up.2 x apart in
      let P : Option ℕ → Type 0 = λ o. IsPrevious numbers (n + 1) x o in
      subst P (sym e) (previous_skip numbers n x (get nat_cmp last x) (λ k. ne (same_Some x y (sym k ∙ at))) (h x))
]

-- one place more, and the last one before it
pub previous_grown : (numbers : List (Option ℕ)) (n : ℕ) (previous : List (Option ℕ)) (found : Option ℕ) →
    ((x : ℕ) → number_at numbers n ≡ Some x → IsPrevious numbers n x found) →
    ((r : ℕ) → found ≡ Some r → (x : ℕ) × (number_at numbers n ≡ Some x)) → ArePrevious numbers n previous →
    ArePrevious numbers (n + 1) (previous ++ found ∷ [])
previous_grown numbers n previous found here some h = record {
  long = let k = h.long in let e = length-append previous (found ∷ []) in omega arith;
  each = λ p x l e. elim (below_or p n l) [
    | inl lt ↦
        let same : number_at (previous ++ found ∷ []) p ≡ number_at previous p =
        ap (option_and_then (λ z. z)) (get_pushed previous found p (let k = h.long in omega arith)) in
        let P : Option ℕ → Type 0 = λ o. IsPrevious numbers p x o in
        subst P (sym same) (h.each p x lt e)
    | inr s ↦
        let at : number_at (previous ++ found ∷ []) p ≡ found =
        number_is (previous ++ found ∷ []) p found (get_last previous found p (s ∙ sym h.long)) in
        let P : Option ℕ → Type 0 = λ o. IsPrevious numbers p x o in
        let Q : ℕ → Type 0 = λ z. IsPrevious numbers z x found in
        subst P (sym at) (subst Q (sym s) (here x (ap (number_at numbers) (sym s) ∙ e)))
  ];
  none = λ p r e. elim (get_pushed_cases previous found p (Some r) (number_from (previous ++ found ∷ []) p r e)) [
    | inl old ↦ h.none p r (number_is previous p (Some r) old)
    | inr new ↦
        let w = some r new.1 in
        (w.0, ap (number_at numbers) (new.0 ∙ h.long) ∙ w.1)
  ];
}

pub previous_start : (numbers : List (Option ℕ)) → ArePrevious numbers 0 []
previous_start numbers = record {
  long = refl;
  each = λ p x l e. absurd (omega arith);
  none = λ p r e. absurd (none-some r e);
}
