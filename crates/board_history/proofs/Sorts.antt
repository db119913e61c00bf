-- A list is put in strict order: of elements that are the same by a relation one stays.
use Rattle.std.proofs.Common.{◌≡◌, ℕ, zero, suc, ◌<◌, List, [], ◌∷◌, slice_get, Some, refl, sym, ap, subst, arith}
use Rattle.std.proofs.Common.{◌⊎◌, inl, inr, ⊎_elim}
use Rattle.std.proofs.lemmas.Option.{none-some, same_Some}
use Rattle.matrix_core.specs.Choices.{IsIn}
use Rattle.board_history.proofs.Members.{in_here}

-- where an element stands
pub stands_at : {X : Type 0} (x : X) (xs : List X) → IsIn x xs → (i : ℕ) × (slice_get xs i ≡ Some x)
stands_at x [] m = absurd m
stands_at x (y ∷ ys) (inl e) = (0, ap Some (sym e))
stands_at x (y ∷ ys) (inr m) = let w = stands_at x ys m in (suc w.0, w.1)

module _ {X : Type 0} (Same Lt : X → X → Type 0) (which : (a b : X) → Same a b ⊎ (Lt a b ⊎ Lt b a)) (itself : (a : X) → Same a a)
    (trans : (a b c : X) → Lt a b → Lt b c → Lt a c) where
  abbrev pub pick_of : {A B C D : Type 0} → A ⊎ (B ⊎ C) → D → D → D → D
  pick_of (inl _) a b c = a
  pick_of (inr (inl _)) a b c = b
  pick_of (inr (inr _)) a b c = c

  abbrev pub insert : X → List X → List X
  insert x [] = x ∷ []
  insert x (y ∷ ys) = pick_of (which x y) (y ∷ ys) (x ∷ y ∷ ys) (y ∷ insert x ys)

  abbrev pub sort : List X → List X
  sort [] = []
  sort (x ∷ xs) = insert x (sort xs)

  -- each is below all that follow it
  abbrev pub Strict : List X → Type 0
  Strict [] = Unit {0}
  Strict (x ∷ xs) = ((y : X) → IsIn y xs → Lt x y) × Strict xs

  in_pick : (x y z : X) (d : Same x y ⊎ (Lt x y ⊎ Lt y x)) (ys js : List X) → (IsIn z js → (z ≡ x) ⊎ IsIn z ys) →
      IsIn z (pick_of d (y ∷ ys) (x ∷ y ∷ ys) (y ∷ js)) → (z ≡ x) ⊎ IsIn z (y ∷ ys)
  in_pick x y z (inl s) ys js f m = inr m
  in_pick x y z (inr (inl l)) ys js f (inl e) = inl e
  in_pick x y z (inr (inl l)) ys js f (inr m) = inr m
  in_pick x y z (inr (inr l)) ys js f (inl e) = inr (inl e)
  in_pick x y z (inr (inr l)) ys js f (inr m) = ⊎_elim (λ e. inl e) (λ n. inr (inr n)) (f m)

  in_insert : (x z : X) (ys : List X) → IsIn z (insert x ys) → (z ≡ x) ⊎ IsIn z ys
  in_insert x z [] (inl e) = inl e
  in_insert x z [] (inr m) = inr m
  in_insert x z (y ∷ ys) m = in_pick x y z (which x y) ys (insert x ys) (in_insert x z ys) m

  pub in_sort : (z : X) (xs : List X) → IsIn z (sort xs) → IsIn z xs
  in_sort z [] m = m
  in_sort z (x ∷ xs) m = ⊎_elim (λ e. inl e) (λ n. inr (in_sort z xs n)) (in_insert x z (sort xs) m)

  -- what stood there stays
  stays_pick : (x y z : X) (d : Same x y ⊎ (Lt x y ⊎ Lt y x)) (ys js : List X) → (IsIn z ys → IsIn z js) → IsIn z (y ∷ ys) →
      IsIn z (pick_of d (y ∷ ys) (x ∷ y ∷ ys) (y ∷ js))
  stays_pick x y z (inl s) ys js f m = m
  stays_pick x y z (inr (inl l)) ys js f m = inr m
  stays_pick x y z (inr (inr l)) ys js f (inl e) = inl e
  stays_pick x y z (inr (inr l)) ys js f (inr m) = inr (f m)

  stays : (x z : X) (ys : List X) → IsIn z ys → IsIn z (insert x ys)
  stays x z [] m = absurd m
  stays x z (y ∷ ys) m = stays_pick x y z (which x y) ys (insert x ys) (stays x z ys) m

  -- the new one is there, or one that is the same
  comes_pick : (x y : X) (d : Same x y ⊎ (Lt x y ⊎ Lt y x)) (ys js : List X) → ((w : X) × IsIn w js × Same x w) →
      (w : X) × IsIn w (pick_of d (y ∷ ys) (x ∷ y ∷ ys) (y ∷ js)) × Same x w
  comes_pick x y (inl s) ys js f = (y, inl refl, s)
  comes_pick x y (inr (inl l)) ys js f = (x, inl refl, itself x)
  comes_pick x y (inr (inr l)) ys js f = (f.0, inr f.1, f.2)

  comes : (x : X) (ys : List X) → (w : X) × IsIn w (insert x ys) × Same x w
  comes x [] = (x, inl refl, itself x)
  comes x (y ∷ ys) = comes_pick x y (which x y) ys (insert x ys) (comes x ys)

  pub sort_in : (z : X) (xs : List X) → IsIn z xs → (w : X) × IsIn w (sort xs) × Same z w
  sort_in z [] m = absurd m
  sort_in z (x ∷ xs) (inl e) = subst (λ y. (w : X) × IsIn w (insert x (sort xs)) × Same y w) (sym e) (comes x (sort xs))
  sort_in z (x ∷ xs) (inr m) = let w = sort_in z xs m in (w.0, stays x w.0 (sort xs) w.1, w.2)

  below_all : (x y : X) (ys : List X) → Lt x y → ((z : X) → IsIn z ys → Lt y z) → (z : X) → IsIn z (y ∷ ys) → Lt x z
  below_all x y ys l f z (inl e) = subst (λ a. Lt x a) (sym e) l
  below_all x y ys l f z (inr m) = trans x y z l (f z m)

  strict_pick : (x y : X) (d : Same x y ⊎ (Lt x y ⊎ Lt y x)) (ys : List X) → Strict (y ∷ ys) → Strict (insert x ys) →
      Strict (pick_of d (y ∷ ys) (x ∷ y ∷ ys) (y ∷ insert x ys))
  strict_pick x y (inl e) ys s t = s
  strict_pick x y (inr (inl l)) ys s t = (below_all x y ys l s.0, s)
  strict_pick x y (inr (inr l)) ys s t =
      (λ z m. ⊎_elim (λ (e : z ≡ x). subst (λ a. Lt y a) (sym e) l) (λ n. s.0 z n) (in_insert x z ys m), t)

  strict_insert : (x : X) (ys : List X) → Strict ys → Strict (insert x ys)
  strict_insert x [] s = (λ z m. absurd m, tt)
  strict_insert x (y ∷ ys) s = strict_pick x y (which x y) ys s (strict_insert x ys s.1)

  pub strict_sort : (xs : List X) → Strict (sort xs)
  strict_sort [] = tt
  strict_sort (x ∷ xs) = strict_insert x (sort xs) (strict_sort xs)

  pub rises : (xs : List X) (i j : ℕ) (a b : X) → Strict xs → slice_get xs i ≡ Some a → slice_get xs j ≡ Some b → i < j → Lt a b
  rises [] i j a b s ha hb l = absurd (none-some a ha)
  rises (x ∷ xs) zero zero a b s ha hb l = absurd (omega arith)
  rises (x ∷ xs) zero (suc j) a b s ha hb l = subst (λ z. Lt z b) (same_Some x a ha) (s.0 b (in_here b xs j hb))
  rises (x ∷ xs) (suc i) zero a b s ha hb l = absurd (omega arith)
  rises (x ∷ xs) (suc i) (suc j) a b s ha hb l = rises xs i j a b s.1 ha hb (omega arith)
