-- Lists without one entry.
use Rattle.std.proofs.Common.{◌≡◌, ℕ, zero, suc, ◌+◌, ◌-◌, ◌<◌, List, [], ◌∷◌, ◌++◌, length, take, drop, slice_get, Some, refl, ◌∙◌, ap}
use Rattle.std.proofs.Common.{arith}
use Rattle.std.proofs.lemmas.Option.{same_Some}
use Rattle.object_watch.specs.Remainders.{removed}

module _ {X : Type 0} where
  pub take_all : (xs : List X) → take (length xs) xs ≡ xs
  take_all [] = refl
  take_all (x ∷ xs) = ap (λ zs. x ∷ zs) (take_all xs)

  -- what stands before it, and what stands behind it
  pub two_parts : (q : ℕ) (xs : List X) → q < length xs → take q xs ++ take (length xs - (q + 1)) (drop (q + 1) xs) ≡ removed q xs
  two_parts q [] l = absurd (omega (arith, l))
  two_parts zero (x ∷ xs) l =
      let n : length (x ∷ xs) - (zero + 1) ≡ length xs = omega arith in ap (λ z. take z xs) n ∙ take_all xs
  two_parts (suc q) (x ∷ xs) l =
      let same : suc q + 1 ≡ suc (q + 1) = omega arith in
      let n : length (x ∷ xs) - suc (q + 1) ≡ length xs - (q + 1) = omega arith in
      ap (λ z. take (suc q) (x ∷ xs) ++ take (length (x ∷ xs) - z) (drop z (x ∷ xs))) same
      ∙ (ap (λ z. x ∷ (take q xs ++ take z (drop (q + 1) xs))) n ∙ ap (λ zs. x ∷ zs) (two_parts q xs (omega (arith, l))))

  -- one more of the first ones
  pub take_one_more : (i : ℕ) (xs : List X) (x : X) → slice_get xs i ≡ Some x → take (i + 1) xs ≡ take i xs ++ x ∷ []
  take_one_more i [] x e = cc
  take_one_more zero (y ∷ xs) x e = ap (λ z. z ∷ []) (same_Some y x e)
  take_one_more (suc i) (y ∷ xs) x e =
      let same : suc i + 1 ≡ suc (i + 1) = omega arith in
      ap (λ n. take n (y ∷ xs)) same ∙ ap (λ zs. y ∷ zs) (take_one_more i xs x e)
