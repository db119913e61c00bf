-- Numbers are put in strict order: each stands where it stood before, and none twice.
use Rattle.std.proofs.Common.{◌≡◌, ℕ, zero, suc, ◌<◌, List, [], ◌∷◌, slice_get, Some, refl, sym, ap, subst, arith, ◌∙◌}
use Rattle.std.proofs.Common.{◌⊎◌, inl, inr, ⊎_elim}
use Rattle.std.proofs.lemmas.Bool.{cases_order}
use Rattle.std.proofs.lemmas.Option.{none-some, same_Some}

abbrev pub IsIn : ℕ → List ℕ → Type 0
IsIn x [] = ⊥
IsIn x (y ∷ ys) = (x ≡ y) ⊎ IsIn x ys

pub stands_at : (x : ℕ) (xs : List ℕ) → IsIn x xs → (i : ℕ) × (slice_get xs i ≡ Some x)
stands_at x [] m = absurd m
stands_at x (y ∷ ys) (inl e) = (0, ap Some (sym e))
stands_at x (y ∷ ys) (inr m) = let w = stands_at x ys m in (suc w.0, w.1)

pub in_here : (x : ℕ) (xs : List ℕ) (i : ℕ) → slice_get xs i ≡ Some x → IsIn x xs
in_here x [] i h = cc
in_here x (y ∷ ys) zero h = inl (sym (same_Some y x h))
in_here x (y ∷ ys) (suc i) h = inr (in_here x ys i h)

-- by a key, and where that is the same by another order
abbrev pub Lex : (ℕ → ℕ) → (ℕ → ℕ → Type 0) → ℕ → ℕ → Type 0
Lex key Lt p q = (key p < key q) ⊎ ((key p ≡ key q) × Lt p q)

pub lex_which : (key : ℕ → ℕ) (Lt : ℕ → ℕ → Type 0) → ((p q : ℕ) → (p ≡ q) ⊎ (Lt p q ⊎ Lt q p)) → (p q : ℕ) →
    (p ≡ q) ⊎ (Lex key Lt p q ⊎ Lex key Lt q p)
lex_which key Lt which p q = elim (cases_order (key p) (key q)) [
  | inr (inl l) ↦ inr (inl (inl l))
  | inr (inr l) ↦ inr (inr (inl l))
  | inl e ↦ elim (which p q) [
    | inl s ↦ inl s
    | inr (inl l) ↦ inr (inl (inr (e, l)))
    | inr (inr l) ↦ inr (inr (inr (sym e, l)))
  ]
]

pub lex_trans : (key : ℕ → ℕ) (Lt : ℕ → ℕ → Type 0) → ((p q r : ℕ) → Lt p q → Lt q r → Lt p r) → (p q r : ℕ) → Lex key Lt p q →
    Lex key Lt q r → Lex key Lt p r
lex_trans key Lt trans p q r (inl a) (inl b) = inl (omega arith)
lex_trans key Lt trans p q r (inl a) (inr b) = let e = b.0 in inl (omega arith)
lex_trans key Lt trans p q r (inr a) (inl b) = let e = a.0 in inl (omega arith)
lex_trans key Lt trans p q r (inr a) (inr b) = inr (a.0 ∙ b.0, trans p q r a.1 b.1)

module _ (Lt : ℕ → ℕ → Type 0) (which : (a b : ℕ) → (a ≡ b) ⊎ (Lt a b ⊎ Lt b a)) (trans : (a b c : ℕ) → Lt a b → Lt b c → Lt a c) where
  abbrev pub pick_of : {A B C D : Type 0} → A ⊎ (B ⊎ C) → D → D → D → D
  pick_of (inl _) a b c = a
  pick_of (inr (inl _)) a b c = b
  pick_of (inr (inr _)) a b c = c

  abbrev pub insert : ℕ → List ℕ → List ℕ
  insert x [] = x ∷ []
  insert x (y ∷ ys) = pick_of (which x y) (y ∷ ys) (x ∷ y ∷ ys) (y ∷ insert x ys)

  abbrev pub sort : List ℕ → List ℕ
  sort [] = []
  sort (x ∷ xs) = insert x (sort xs)

  -- each is below all that follow it
  abbrev pub Strict : List ℕ → Type 0
  Strict [] = Unit {0}
  Strict (x ∷ xs) = ((y : ℕ) → IsIn y xs → Lt x y) × Strict xs

  in_pick : (x y z : ℕ) (d : (x ≡ y) ⊎ (Lt x y ⊎ Lt y x)) (ys js : List ℕ) → (IsIn z js → (z ≡ x) ⊎ IsIn z ys) →
      IsIn z (pick_of d (y ∷ ys) (x ∷ y ∷ ys) (y ∷ js)) → (z ≡ x) ⊎ IsIn z (y ∷ ys)
  in_pick x y z (inl s) ys js f m = inr m
  in_pick x y z (inr (inl l)) ys js f (inl e) = inl e
  in_pick x y z (inr (inl l)) ys js f (inr m) = inr m
  in_pick x y z (inr (inr l)) ys js f (inl e) = inr (inl e)
  in_pick x y z (inr (inr l)) ys js f (inr m) = ⊎_elim (λ e. inl e) (λ n. inr (inr n)) (f m)

  in_insert : (x z : ℕ) (ys : List ℕ) → IsIn z (insert x ys) → (z ≡ x) ⊎ IsIn z ys
  in_insert x z [] (inl e) = inl e
  in_insert x z [] (inr m) = inr m
  in_insert x z (y ∷ ys) m = in_pick x y z (which x y) ys (insert x ys) (in_insert x z ys) m

  pub in_sort : (z : ℕ) (xs : List ℕ) → IsIn z (sort xs) → IsIn z xs
  in_sort z [] m = m
  in_sort z (x ∷ xs) m = ⊎_elim (λ e. inl e) (λ n. inr (in_sort z xs n)) (in_insert x z (sort xs) m)

  stays_pick : (x y z : ℕ) (d : (x ≡ y) ⊎ (Lt x y ⊎ Lt y x)) (ys js : List ℕ) → (IsIn z ys → IsIn z js) → IsIn z (y ∷ ys) →
      IsIn z (pick_of d (y ∷ ys) (x ∷ y ∷ ys) (y ∷ js))
  stays_pick x y z (inl s) ys js f m = m
  stays_pick x y z (inr (inl l)) ys js f m = inr m
  stays_pick x y z (inr (inr l)) ys js f (inl e) = inl e
  stays_pick x y z (inr (inr l)) ys js f (inr m) = inr (f m)

  stays : (x z : ℕ) (ys : List ℕ) → IsIn z ys → IsIn z (insert x ys)
  stays x z [] m = absurd m
  stays x z (y ∷ ys) m = stays_pick x y z (which x y) ys (insert x ys) (stays x z ys) m

  comes_pick : (x y : ℕ) (d : (x ≡ y) ⊎ (Lt x y ⊎ Lt y x)) (ys js : List ℕ) → IsIn x js → IsIn x (pick_of d (y ∷ ys) (x ∷ y ∷ ys) (y ∷ js))
  comes_pick x y (inl s) ys js f = inl s
  comes_pick x y (inr (inl l)) ys js f = inl refl
  comes_pick x y (inr (inr l)) ys js f = inr f

  comes : (x : ℕ) (ys : List ℕ) → IsIn x (insert x ys)
  comes x [] = inl refl
  comes x (y ∷ ys) = comes_pick x y (which x y) ys (insert x ys) (comes x ys)

  pub sort_in : (z : ℕ) (xs : List ℕ) → IsIn z xs → IsIn z (sort xs)
  sort_in z [] m = absurd m
  sort_in z (x ∷ xs) (inl e) = subst (λ y. IsIn y (insert x (sort xs))) (sym e) (comes x (sort xs))
  sort_in z (x ∷ xs) (inr m) = stays x z (sort xs) (sort_in z xs m)

  below_all : (x y : ℕ) (ys : List ℕ) → Lt x y → ((z : ℕ) → IsIn z ys → Lt y z) → (z : ℕ) → IsIn z (y ∷ ys) → Lt x z
  below_all x y ys l f z (inl e) = subst (λ a. Lt x a) (sym e) l
  below_all x y ys l f z (inr m) = trans x y z l (f z m)

  strict_pick : (x y : ℕ) (d : (x ≡ y) ⊎ (Lt x y ⊎ Lt y x)) (ys : List ℕ) → Strict (y ∷ ys) → Strict (insert x ys) →
      Strict (pick_of d (y ∷ ys) (x ∷ y ∷ ys) (y ∷ insert x ys))
  strict_pick x y (inl e) ys s t = s
  strict_pick x y (inr (inl l)) ys s t = (below_all x y ys l s.0, s)
  strict_pick x y (inr (inr l)) ys s t =
      (λ z m. ⊎_elim (λ (e : z ≡ x). subst (λ a. Lt y a) (sym e) l) (λ n. s.0 z n) (in_insert x z ys m), t)

  strict_insert : (x : ℕ) (ys : List ℕ) → Strict ys → Strict (insert x ys)
  strict_insert x [] s = (λ z m. absurd m, tt)
  strict_insert x (y ∷ ys) s = strict_pick x y (which x y) ys s (strict_insert x ys s.1)

  pub strict_sort : (xs : List ℕ) → Strict (sort xs)
  strict_sort [] = tt
  strict_sort (x ∷ xs) = strict_insert x (sort xs) (strict_sort xs)

  pub rises : (xs : List ℕ) (i j : ℕ) (a b : ℕ) → Strict xs → slice_get xs i ≡ Some a → slice_get xs j ≡ Some b → i < j → Lt a b
  rises [] i j a b s ha hb l = absurd (none-some a ha)
  rises (x ∷ xs) zero zero a b s ha hb l = absurd (omega arith)
  rises (x ∷ xs) zero (suc j) a b s ha hb l = subst (λ z. Lt z b) (same_Some x a ha) (s.0 b (in_here b xs j hb))
  rises (x ∷ xs) (suc i) zero a b s ha hb l = absurd (omega arith)
  rises (x ∷ xs) (suc i) (suc j) a b s ha hb l = rises xs i j a b s.1 ha hb (omega arith)
