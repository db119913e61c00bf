-- What an edge, a number at a place, and a change of one of a list say.
use Rattle.std.proofs.Common.{◌≡◌, ◌≢◌, ℕ, ◌<◌, List, length, refl, sym, ◌∙◌, ap, subst, arith, ◌⊎◌, inl, inr, slice_get, set}
use Rattle.std.proofs.Common.{false, Option, None, Some}
use Rattle.std.specs.Prelude.{IfNone, is_some}
use Rattle.std.specs.Option.{option_and_then, option_map}
use Rattle.std.proofs.lemmas.Bool.{cases_eq}
use Rattle.std.proofs.lemmas.Option.{slice_get_within, same_Some, slice_get_cases, option_and_then_some}
use Rattle.history_core.proofs.Places.{get_set_other, get_set_same}
use Rattle.history_coherence.specs.declared.edge.Edge.{Edge}
use Rattle.history_coherence.specs.inner.Keys.{edge_at, edge_to, number_at}

-- ---- none or some
pub none_by : {A : Type 0} (o : Option A) → is_some o ≡ false → o ≡ None
none_by None h = refl
none_by (Some x) h = cc

pub none_of : {A : Type 0} (o : Option A) → ((x : A) → o ≡ Some x → ⊥) → o ≡ None
none_of None h = refl
none_of (Some x) h = absurd (h x refl)

pub if_none_from : {A : Type 0} (o : Option A) (P : Type 0) → (o ≡ None → P) → IfNone o P
if_none_from None P h = h refl
if_none_from (Some x) P h = tt

pub if_none_of : {A : Type 0} (o : Option A) (P : Type 0) → IfNone o P → o ≡ None → P
if_none_of None P h e = h
if_none_of (Some x) P h e = cc

-- ---- a list of which one is changed
pub set_cases : {X : Type 0} (xs : List X) (i j : ℕ) (x z : X) → slice_get (set xs i x) j ≡ Some z → i < length xs →
    ((j ≡ i) × (x ≡ z)) ⊎ ((j ≢ i) × (slice_get xs j ≡ Some z))
set_cases xs i j x z h l = elim (cases_eq j i) [
  | inr ne ↦ inr (ne, sym (get_set_other xs i j x ne) ∙ h)
  | inl e ↦ elim (slice_get_cases xs i).1 [
    | inl w ↦ inl (e, same_Some x z (sym (get_set_same xs i w.0 x w.2) ∙ ap (slice_get (set xs i x)) (sym e) ∙ h))
    | inr w ↦ absurd (omega (arith, w.0))
  ]
]

pub set_here : {X : Type 0} (xs : List X) (i : ℕ) (x : X) → i < length xs → slice_get (set xs i x) i ≡ Some x
set_here xs i x l = elim (slice_get_cases xs i).1 [
  | inl w ↦ get_set_same xs i w.0 x w.2
  | inr w ↦ absurd (omega (arith, w.0))
]

-- ---- numbers at places
pub number_is : (numbers : List (Option ℕ)) (p : ℕ) (found : Option ℕ) → slice_get numbers p ≡ Some found → number_at numbers p ≡ found
number_is numbers p found e = ap (option_and_then (λ n. n)) e

pub number_from : (numbers : List (Option ℕ)) (p x : ℕ) → number_at numbers p ≡ Some x → slice_get numbers p ≡ Some (Some x)
number_from numbers p x h = option_and_then_some (λ n. n) (slice_get numbers p) x h (λ found e s. e ∙ ap Some s)

pub number_within : (numbers : List (Option ℕ)) (p x : ℕ) → number_at numbers p ≡ Some x → p < length numbers
number_within numbers p x h = slice_get_within numbers p (Some x) (number_from numbers p x h)

pub number_set : (numbers : List (Option ℕ)) (i : ℕ) (x : Option ℕ) → i < length numbers → number_at (set numbers i x) i ≡ x
number_set numbers i x l = number_is (set numbers i x) i x (set_here numbers i x l)

pub number_other : (numbers : List (Option ℕ)) (i j : ℕ) (x : Option ℕ) → j ≢ i → number_at (set numbers i x) j ≡ number_at numbers j
number_other numbers i j x ne = ap (option_and_then (λ n. n)) (get_set_other numbers i j x ne)

-- ---- edges
pub mapped_some : {A B : Type 0} (f : A → B) (o : Option A) (y : B) → option_map f o ≡ Some y → (x : A) × (o ≡ Some x) × (f x ≡ y)
mapped_some f None y h = cc
mapped_some f (Some x) y h = (x, refl, same_Some (f x) y h)

abbrev pub edge_of : ℕ → ℕ → ℕ → ℕ → Edge
edge_of q to p from = record { link = record { earlier = p; later = q }; from = from; to = to }

pub record IsEdge (keys earlier : List (Option ℕ)) (q : ℕ) (e : Edge) : Type 0 where
  pub to : number_at keys q ≡ Some e.to
  pub before : number_at earlier q ≡ Some e.link.earlier
  pub from : number_at keys e.link.earlier ≡ Some e.from
  pub later : e.link.later ≡ q

pub is_edge : (keys earlier : List (Option ℕ)) (q : ℕ) (e : Edge) → edge_at keys earlier q ≡ Some e → IsEdge keys earlier q e
is_edge keys earlier q e h =
    option_and_then_some (λ to. option_and_then (λ p. edge_to keys q to p) (number_at earlier q)) (number_at keys q) e h (λ to a b.
    option_and_then_some (λ p. edge_to keys q to p) (number_at earlier q) e b (λ p c d.
    let w = mapped_some (λ from. edge_of q to p from) (number_at keys p) e d in
    let P : Edge → Type 0 = λ z. IsEdge keys earlier q z in
    subst P w.2 (record { to = a; before = c; from = w.1; later = refl })))

pub edge_from : (keys earlier : List (Option ℕ)) (q to p from : ℕ) → number_at keys q ≡ Some to → number_at earlier q ≡ Some p →
    number_at keys p ≡ Some from → edge_at keys earlier q ≡ Some (edge_of q to p from)
edge_from keys earlier q to p from a b c =
    ap (option_and_then (λ t. option_and_then (λ r. edge_to keys q t r) (number_at earlier q))) a
    ∙ ap (option_and_then (λ r. edge_to keys q to r)) b
    ∙ ap (option_map (λ f. edge_of q to p f)) c
