-- Elements of lists: those that stand at a place, and those of two lists in a row.
use Rattle.std.proofs.Common.{◌≡◌, ℕ, zero, suc, List, [], ◌∷◌, ◌++◌, sym, ◌⊎◌, inl, inr, ⊎_elim}
use Rattle.std.specs.Prelude.{slice_get, Some}
use Rattle.std.proofs.lemmas.Option.{none-some, same_Some}
use Rattle.matrix_core.specs.Choices.{IsIn}

pub in_here : {X : Type 0} (x : X) (xs : List X) (i : ℕ) → slice_get xs i ≡ Some x → IsIn x xs
in_here x [] i h = absurd (none-some x h)
in_here x (y ∷ ys) zero h = inl (sym (same_Some y x h))
in_here x (y ∷ ys) (suc i) h = inr (in_here x ys i h)

pub in_append : {X : Type 0} (z : X) (xs ys : List X) → IsIn z (xs ++ ys) → IsIn z xs ⊎ IsIn z ys
in_append z [] ys m = inr m
in_append z (x ∷ xs) ys (inl e) = inl (inl e)
in_append z (x ∷ xs) ys (inr m) = ⊎_elim (λ h. inl (inr h)) (λ h. inr h) (in_append z xs ys m)

pub append_left : {X : Type 0} (z : X) (xs ys : List X) → IsIn z xs → IsIn z (xs ++ ys)
append_left z [] ys m = absurd m
append_left z (x ∷ xs) ys (inl e) = inl e
append_left z (x ∷ xs) ys (inr m) = inr (append_left z xs ys m)

pub append_right : {X : Type 0} (z : X) (xs ys : List X) → IsIn z ys → IsIn z (xs ++ ys)
append_right z [] ys m = m
append_right z (x ∷ xs) ys m = inr (append_right z xs ys m)
