-- Lists in pairs, made from their ends: the last is made first, so what was made is turned round.
use Rattle.std.proofs.Common.{◌≡◌, ℕ, zero, suc, List, [], ◌∷◌, ◌++◌, length, append_assoc, map, reverse}
use Rattle.std.proofs.Common.{refl, sym, ◌∙◌, ap, subst, arith}
use Rattle.std.specs.Prelude.{slice_get, Some}
use Rattle.std.proofs.lemmas.Option.{same_Some, none-some}
use Rattle.std.proofs.lemmas.List.{reverse-append}
use Rattle.c_boards.specs.Opens.{Pairs}

pub append_nothing : {A : Type 0} (xs : List A) → xs ≡ xs ++ []
append_nothing [] = refl
append_nothing (x ∷ xs) = ap (λ z. x ∷ z) (append_nothing xs)

-- pairs with what was made so far of the last elements, last first
pub record PairedFrom {A B : Type 0} (R : A → B → Type 0) (whole left : List A) (made : List B) : Type 0 where
  pub done : List A
  pub of : whole ≡ left ++ done
  pub are : Pairs R done (reverse made)

pub paired_none : {A B : Type 0} (R : A → B → Type 0) (whole : List A) → PairedFrom R whole whole []
paired_none R whole = record { done = []; of = append_nothing whole; are = tt }

pub paired_more : {A B : Type 0} (R : A → B → Type 0) (whole before left : List A) (made : List B) (x : A) (y : B)
    → PairedFrom R whole before made → before ≡ left ++ x ∷ [] → R x y → PairedFrom R whole left (made ++ y ∷ [])
paired_more R whole before left made x y h e r = record {
  done = x ∷ h.done;
  of = h.of ∙ ap (λ z. z ++ h.done) e ∙ append_assoc left (x ∷ []) h.done;
  are = subst (Pairs R (x ∷ h.done)) (sym (reverse-append made (y ∷ []))) (r, h.are);
}

pub paired_all : {A B : Type 0} (R : A → B → Type 0) (whole left : List A) (made : List B) → PairedFrom R whole left made
    → length left ≡ 0 → Pairs R whole (reverse made)
paired_all R whole [] made h e = subst (λ z. Pairs R z (reverse made)) (sym h.of) h.are
paired_all R whole (x ∷ xs) made h e = absurd (omega (arith, e))

-- what stands before others
pub stands_before : {A : Type 0} (xs : List A) (x : A) (ys : List A) → slice_get ((xs ++ x ∷ []) ++ ys) (length xs) ≡ Some x
stands_before [] x ys = refl
stands_before (y ∷ xs) x ys = stands_before xs x ys

pub paired_length : {A B : Type 0} (R : A → B → Type 0) (xs : List A) (ys : List B) → Pairs R xs ys → length xs ≡ length ys
paired_length R [] [] h = refl
paired_length R [] (y ∷ ys) h = absurd h
paired_length R (x ∷ xs) [] h = absurd h
paired_length R (x ∷ xs) (y ∷ ys) h = ap suc (paired_length R xs ys h.1)

pub paired_at : {A B : Type 0} (R : A → B → Type 0) (xs : List A) (ys : List B) (k : ℕ) (x : A) (y : B) → Pairs R xs ys
    → slice_get xs k ≡ Some x → slice_get ys k ≡ Some y → R x y
paired_at R [] ys k x y h e f = absurd (none-some x e)
paired_at R (a ∷ xs) [] k x y h e f = absurd h
paired_at R (a ∷ xs) (b ∷ ys) zero x y h e f = subst (λ z. R z y) (same_Some a x e) (subst (R a) (same_Some b y f) h.0)
paired_at R (a ∷ xs) (b ∷ ys) (suc k) x y h e f = paired_at R xs ys k x y h.1 e f

pub paired_mapped : {A B : Type 0} (R : A → B → Type 0) (f : B → A) (xs : List A) (ys : List B)
    → ((x : A) (y : B) → R x y → f y ≡ x) → Pairs R xs ys → map f ys ≡ xs
paired_mapped R f [] [] t h = refl
paired_mapped R f [] (y ∷ ys) t h = absurd h
paired_mapped R f (x ∷ xs) [] t h = absurd h
paired_mapped R f (x ∷ xs) (y ∷ ys) t h = subst (λ z. f y ∷ z ≡ x ∷ xs) (sym (paired_mapped R f xs ys t h.1)) (ap (λ z. z ∷ xs) (t x y h.0))

-- what is beside the element at a place
pub paired_get : {A B : Type 0} (R : A → B → Type 0) (xs : List A) (ys : List B) (k : ℕ) (x : A) → Pairs R xs ys
    → slice_get xs k ≡ Some x → (y : B) × (slice_get ys k ≡ Some y) × R x y
paired_get R [] ys k x h e = absurd (none-some x e)
paired_get R (a ∷ xs) [] k x h e = absurd h
paired_get R (a ∷ xs) (b ∷ ys) zero x h e = (b, refl, subst (λ z. R z b) (same_Some a x e) h.0)
paired_get R (a ∷ xs) (b ∷ ys) (suc k) x h e = paired_get R xs ys k x h.1 e

-- what holds of each element beside another one
pub paired_all_of : {A B X : Type 0} (R : A → B → Type 0) (f : B → X) (x : X) (xs : List A) (ys : List B)
    → ((a : A) (b : B) → R a b → f b ≡ x) → Pairs R xs ys → (k : ℕ) (y : X) → slice_get (map f ys) k ≡ Some y → y ≡ x
paired_all_of R f x [] [] t h k y e = absurd (none-some y e)
paired_all_of R f x [] (b ∷ ys) t h k y e = absurd h
paired_all_of R f x (a ∷ xs) [] t h k y e = absurd h
paired_all_of R f x (a ∷ xs) (b ∷ ys) t h zero y e = sym (same_Some (f b) y e) ∙ t a b h.0
paired_all_of R f x (a ∷ xs) (b ∷ ys) t h (suc k) y e = paired_all_of R f x xs ys t h.1 k y e

pub paired_back : {A B : Type 0} (R : A → B → Type 0) (xs : List A) (ys : List B) (k : ℕ) (y : B) → Pairs R xs ys
    → slice_get ys k ≡ Some y → (x : A) × (slice_get xs k ≡ Some x) × R x y
paired_back R [] [] k y h e = absurd (none-some y e)
paired_back R [] (b ∷ ys) k y h e = absurd h
paired_back R (a ∷ xs) [] k y h e = absurd h
paired_back R (a ∷ xs) (b ∷ ys) zero y h e = (a, refl, subst (R a) (same_Some b y e) h.0)
paired_back R (a ∷ xs) (b ∷ ys) (suc k) y h e = paired_back R xs ys k y h.1 e
