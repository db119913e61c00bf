-- Facts of each element of a short list, and of each small number, given one by one.
use Rattle.std.proofs.Common.{◌≡◌, ℕ, zero, suc, ◌<◌, List, [], ◌∷◌, slice_get, Some, subst, arith}
use Rattle.std.proofs.lemmas.Option.{none-some, same_Some}

abbrev pub EachAt : {A : Type 0} → (ℕ → A → Type 0) → List A → Type 0
EachAt P [] = Unit {0}
EachAt P (x ∷ xs) = P 0 x × EachAt (λ k. P (suc k)) xs

pub each_at : {A : Type 0} (P : ℕ → A → Type 0) (xs : List A) → EachAt P xs → (k : ℕ) (x : A) → slice_get xs k ≡ Some x → P k x
each_at P [] h k x e = absurd (none-some x e)
each_at P (y ∷ ys) h zero x e = subst (P 0) (same_Some y x e) h.0
each_at P (y ∷ ys) h (suc k) x e = each_at (λ k. P (suc k)) ys h.1 k x e

-- of two lists
abbrev pub EachPair : {A B : Type 0} → (ℕ → A → B → Type 0) → List A → List B → Type 0
EachPair P [] ys = Unit {0}
EachPair P (x ∷ xs) [] = Unit {0}
EachPair P (x ∷ xs) (y ∷ ys) = P 0 x y × EachPair (λ k. P (suc k)) xs ys

pub each_pair : {A B : Type 0} (P : ℕ → A → B → Type 0) (xs : List A) (ys : List B) → EachPair P xs ys →
    (k : ℕ) (x : A) (y : B) → slice_get xs k ≡ Some x → slice_get ys k ≡ Some y → P k x y
each_pair P [] ys h k x y e f = absurd (none-some x e)
each_pair P (a ∷ xs) [] h k x y e f = absurd (none-some y f)
each_pair P (a ∷ xs) (b ∷ ys) h zero x y e f = subst (λ z. P 0 z y) (same_Some a x e) (subst (P 0 a) (same_Some b y f) h.0)
each_pair P (a ∷ xs) (b ∷ ys) h (suc k) x y e f = each_pair (λ k. P (suc k)) xs ys h.1 k x y e f

abbrev pub Below : (ℕ → Type 0) → ℕ → Type 0
Below P zero = Unit {0}
Below P (suc n) = P 0 × Below (λ i. P (suc i)) n

pub below : (P : ℕ → Type 0) (n : ℕ) → Below P n → (i : ℕ) → i < n → P i
below P zero h i l = absurd (omega arith)
below P (suc n) h zero l = h.0
below P (suc n) h (suc i) l = below (λ i. P (suc i)) n h.1 i (omega arith)
