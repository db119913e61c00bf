-- Lists with one more element at the end, and which of two events is before the other.
use Rattle.std.proofs.Common.{◌≡◌, ℕ, ◌+◌, ◌<◌, ◌≤◌, List, [], ◌∷◌, ◌++◌, length, slice_get, Option, None, Some, IsSome, zero, suc, refl}
use Rattle.std.proofs.Common.{sym, ◌∙◌, ◌⊎◌, inl, inr, arith}
use Rattle.std.proofs.lemmas.Option.{same_Some}
use Rattle.four_slot_core.specs.Counts.{IsBelow}

pub get_before : {X : Type 0} (xs : List X) (y : X) (i : ℕ) (x : X) → slice_get xs i ≡ Some x → slice_get (xs ++ y ∷ []) i ≡ Some x
get_before [] y i x h = cc
get_before (z ∷ xs) y zero x h = h
get_before (z ∷ xs) y (suc i) x h = get_before xs y i x h

pub get_last : {X : Type 0} (xs : List X) (y : X) (i : ℕ) → i ≡ length xs → slice_get (xs ++ y ∷ []) i ≡ Some y
get_last [] y zero e = refl
get_last [] y (suc i) e = absurd (omega arith)
get_last (z ∷ xs) y zero e = absurd (omega arith)
get_last (z ∷ xs) y (suc i) e = get_last xs y i (omega arith)

pub get_cases : {X : Type 0} (xs : List X) (y : X) (i : ℕ) (x : X) → slice_get (xs ++ y ∷ []) i ≡ Some x →
    (slice_get xs i ≡ Some x) ⊎ ((i ≡ length xs) × (x ≡ y))
get_cases [] y zero x h = inr (refl, sym (same_Some y x h))
get_cases [] y (suc i) x h = cc
get_cases (z ∷ xs) y zero x h = inl h
get_cases (z ∷ xs) y (suc i) x h = elim (get_cases xs y i x h) [ inl old ↦ inl old | inr new ↦ inr (omega arith, new.1) ]

pub get_within : {X : Type 0} (xs : List X) (i : ℕ) → i < length xs → (x : X) × (slice_get xs i ≡ Some x)
get_within [] i l = absurd (omega arith)
get_within (z ∷ xs) zero l = (z, refl)
get_within (z ∷ xs) (suc i) l = get_within xs i (omega arith)

pub some_of : {X : Type 0} (o : Option X) → IsSome o → (x : X) × (o ≡ Some x)
some_of None h = cc
some_of (Some x) h = (x, refl)

pub below_more : (xs : List ℕ) (next at : ℕ) → next ≤ at → IsBelow xs next → IsBelow (xs ++ at ∷ []) (at + 1)
below_more xs next at le h i p e = elim (get_cases xs at i p e) [ inl old ↦ omega (arith, h i p old) | inr new ↦ omega (arith, new.1) ]

pub below_up : (xs : List ℕ) (next at : ℕ) → next ≤ at → IsBelow xs next → IsBelow xs (at + 1)
below_up xs next at le h i p e = omega (arith, h i p e)

pub is_some_of : {X : Type 0} (o : Option X) (x : X) → o ≡ Some x → IsSome o
is_some_of None x e = cc
is_some_of (Some y) x e = refl

-- an element that is there stays
pub same_get : {X : Type 0} (xs : List X) (y : X) (i : ℕ) (x : X) → slice_get xs i ≡ Some x → slice_get (xs ++ y ∷ []) i ≡ slice_get xs i
same_get xs y i x h = get_before xs y i x h ∙ sym h
