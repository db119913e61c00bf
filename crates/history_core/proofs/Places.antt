-- Lists with one more element, or with one element replaced: the other places keep theirs.
use Rattle.std.proofs.Common.{◌≡◌, ◌≢◌, ℕ, ◌+◌, ◌<◌, List, [], ◌∷◌, ◌++◌, length, set, slice_get, Some, zero, suc, ◌⊎◌, inl, inr, refl, sym}
use Rattle.std.proofs.Common.{◌∙◌, ap, arith}
use Rattle.std.proofs.lemmas.Bool.{cases_eq}
use Rattle.std.proofs.lemmas.Option.{same_Some, slice_get_within}

pub get_pushed : {X : Type 0} (xs : List X) (y : X) (i : ℕ) → i ≢ length xs → slice_get (xs ++ y ∷ []) i ≡ slice_get xs i
get_pushed [] y zero ne = absurd (ne refl)
get_pushed [] y (suc i) ne = refl
get_pushed (x ∷ xs) y zero ne = refl
get_pushed (x ∷ xs) y (suc i) ne = get_pushed xs y i (λ e. ne (ap suc e))

pub get_last : {X : Type 0} (xs : List X) (y : X) (i : ℕ) → i ≡ length xs → slice_get (xs ++ y ∷ []) i ≡ Some y
get_last xs y i e = ap (slice_get (xs ++ y ∷ [])) e ∙ at xs
  where
    at : (zs : List _) → slice_get (zs ++ y ∷ []) (length zs) ≡ Some y
    at [] = refl
    at (z ∷ zs) = at zs

pub get_stays : {X : Type 0} (xs : List X) (x y : X) (i : ℕ) → slice_get xs i ≡ Some x → slice_get (xs ++ y ∷ []) i ≡ Some x
get_stays xs x y i h = get_pushed xs y i (λ e. let l = slice_get_within xs i x h in omega arith) ∙ h

-- an element of the longer list stood before, or is the new one
pub get_pushed_cases : {X : Type 0} (xs : List X) (y : X) (i : ℕ) (x : X) → slice_get (xs ++ y ∷ []) i ≡ Some x →
    (slice_get xs i ≡ Some x) ⊎ ((i ≡ length xs) × (y ≡ x))
get_pushed_cases xs y i x h = elim (cases_eq i (length xs)) [
  | inl e ↦ inr (e, same_Some y x (sym (get_last xs y i e) ∙ h))
  | inr ne ↦ inl (sym (get_pushed xs y i ne) ∙ h)
]

-- a list after others: its places go on
pub get_after : {X : Type 0} (xs ys : List X) (i : ℕ) → slice_get (xs ++ ys) (length xs + i) ≡ slice_get ys i
get_after [] ys i = ap (slice_get ys) (omega arith)
get_after (x ∷ xs) ys i = ap (slice_get (x ∷ (xs ++ ys))) (let e : suc (length xs) + i ≡ suc (length xs + i) = omega arith in
    e) ∙ get_after xs ys i

pub get_before : {X : Type 0} (xs ys : List X) (i : ℕ) → i < length xs → slice_get (xs ++ ys) i ≡ slice_get xs i
get_before [] ys i l = absurd (omega arith)
get_before (x ∷ xs) ys zero l = refl
get_before (x ∷ xs) ys (suc i) l = get_before xs ys i (omega arith)

pub set_after : {X : Type 0} (xs ys : List X) (i : ℕ) (y : X) → set (xs ++ ys) (length xs + i) y ≡ xs ++ set ys i y
set_after [] ys i y = ap (λ n. set ys n y) (omega arith)
set_after (x ∷ xs) ys i y = ap (λ n. set (x ∷ (xs ++ ys)) n y) (let e : suc (length xs) + i ≡ suc (length xs + i) = omega arith in
    e) ∙ ap (λ zs. x ∷ zs) (set_after xs ys i y)

pub get_set_same : {X : Type 0} (xs : List X) (i : ℕ) (x y : X) → slice_get xs i ≡ Some x → slice_get (set xs i y) i ≡ Some y
get_set_same [] i x y h = cc
get_set_same (z ∷ xs) zero x y h = refl
get_set_same (z ∷ xs) (suc i) x y h = get_set_same xs i x y h

pub get_set_other : {X : Type 0} (xs : List X) (i j : ℕ) (y : X) → j ≢ i → slice_get (set xs i y) j ≡ slice_get xs j
get_set_other [] i j y ne = refl
get_set_other (z ∷ xs) zero zero y ne = absurd (ne refl)
get_set_other (z ∷ xs) zero (suc j) y ne = refl
get_set_other (z ∷ xs) (suc i) zero y ne = refl
get_set_other (z ∷ xs) (suc i) (suc j) y ne = get_set_other xs i j y (λ e. ne (ap suc e))
