-- Lists that are made by number: element i of the first n is f i.
use Rattle.std.proofs.Common.{◌≡◌, ℕ, zero, suc, ◌<◌, List, [], ◌∷◌, ◌++◌, length, slice_get, Some, refl, ◌∙◌, ap, arith, inl, inr}
use Rattle.std.proofs.lemmas.Bool.{cases_eq}
use Rattle.std.proofs.lemmas.List.{length_push}
use Rattle.history_core.proofs.Places.{get_last, get_pushed}

abbrev pub upto : {A : Type 0} → (ℕ → A) → ℕ → List A
upto f zero = []
upto f (suc n) = upto f n ++ f n ∷ []

pub upto_length : {A : Type 0} (f : ℕ → A) (n : ℕ) → length (upto f n) ≡ n
upto_length f zero = refl
upto_length f (suc n) = let l : length (upto f n) ≡ n = upto_length f n in length_push (upto f n) (f n) ∙ omega arith

pub upto_at : {A : Type 0} (f : ℕ → A) (n i : ℕ) → i < n → slice_get (upto f n) i ≡ Some (f i)
upto_at f zero i l = absurd (omega arith)
upto_at f (suc n) i l = elim (cases_eq i n) [
  | inl e ↦ get_last (upto f n) (f n) i (e ∙ omega (arith, upto_length f n)) ∙ ap (λ j. Some (f j)) (omega arith)
  | inr ne ↦ get_pushed (upto f n) (f n) i (λ e. let s : length (upto f n) ≡ n = upto_length f n in omega arith)
      ∙ upto_at f n i (omega arith)
]
