-- What is added up over a list: how one element changes it.
use Rattle.std.proofs.Common.{◌≡◌, ◌≢◌, ℕ, zero, suc, ◌+◌, ◌≤◌, List, [], ◌∷◌, ◌++◌, set}
use Rattle.std.proofs.Common.{refl, sym, ap, arith}
use mathlib.Core.Option.{some, some-injective, some-ne-none}
use lib.ListN.{get_elem?}
use Rattle.family_table.specs.Family.{total}

module _ {A : Type 0} (f : A → ℕ) where
  pub total_set : (xs : List A) (i : ℕ) (x y : A) → get_elem? xs i ≡ some x → total f (set xs i y) + f x ≡ total f xs + f y
  total_set [] i x y e = absurd (some-ne-none x (sym e))
  total_set (z ∷ zs) zero x y e = let h : f z ≡ f x = ap f (some-injective z x e) in omega arith
  total_set (z ∷ zs) (suc i) x y e = let h = total_set zs i x y e in omega arith

  pub total_snoc : (xs : List A) (y : A) → total f (xs ++ y ∷ []) ≡ total f xs + f y
  total_snoc [] y = omega arith
  total_snoc (x ∷ xs) y = let h = total_snoc xs y in omega arith

  pub total_one : (xs : List A) (i : ℕ) (x : A) → get_elem? xs i ≡ some x → f x ≤ total f xs
  total_one [] i x e = absurd (some-ne-none x (sym e))
  total_one (z ∷ zs) zero x e = let h : f z ≡ f x = ap f (some-injective z x e) in omega arith
  total_one (z ∷ zs) (suc i) x e = let h = total_one zs i x e in omega arith

  pub total_two : (xs : List A) (i j : ℕ) (x y : A) → get_elem? xs i ≡ some x → get_elem? xs j ≡ some y → i ≢ j → f x + f y ≤ total f xs
  total_two [] i j x y e h ne = absurd (some-ne-none x (sym e))
  total_two (z ∷ zs) zero zero x y e h ne = absurd (ne refl)
  total_two (z ∷ zs) zero (suc j) x y e h ne =
      let a : f z ≡ f x = ap f (some-injective z x e) in let b = total_one zs j y h in omega arith
  total_two (z ∷ zs) (suc i) zero x y e h ne =
      let a : f z ≡ f y = ap f (some-injective z y h) in let b = total_one zs i x e in omega arith
  total_two (z ∷ zs) (suc i) (suc j) x y e h ne = let b = total_two zs i j x y e h (λ k. ne (ap suc k)) in omega arith
