-- A list begun at another place has the same elements, each as often. What goes behind the others is such a list still.
use Rattle.std.proofs.Common.{◌≡◌, ◌⊎◌, ℕ, zero, suc, ◌+◌, ◌-◌, List, [], ◌∷◌, ◌++◌, length, refl, sym, ap, ◌∙◌, subst, ⊎_elim, inl, inr}
use Rattle.std.proofs.Common.{arith, append_assoc, append-nil}
use Rattle.std.proofs.lemmas.List.{map-append}
use mathlib.Core.Option.{some, Option, some-ne-none, some-injective}
use lib.ListN.{get_elem?}
use Rattle.atomic_table.specs.Table.{turned}
use Rattle.cell_contract.specs.Running.{held_slots}
use Rattle.family_table.specs.Layouts.{IsInCell, Distinct, Disjoint, Out}
use Rattle.family_triple.specs.Tables.{IsRotated}

module _ {A : Type 0} where
  in_parts : (xs ys : List A) (x : A) → IsInCell x (xs ++ ys) → IsInCell x xs ⊎ IsInCell x ys
  in_parts [] ys x h = inr h
  in_parts (z ∷ xs) ys x (inl e) = inl (inl e)
  in_parts (z ∷ xs) ys x (inr h) = ⊎_elim (λ (k : IsInCell x xs). inl (inr k)) (λ (k : IsInCell x ys). inr k) (in_parts xs ys x h)

  in_front : (xs ys : List A) (x : A) → IsInCell x xs → IsInCell x (xs ++ ys)
  in_front [] ys x h = absurd h
  in_front (z ∷ xs) ys x (inl e) = inl e
  in_front (z ∷ xs) ys x (inr h) = inr (in_front xs ys x h)

  in_back : (xs ys : List A) (x : A) → IsInCell x ys → IsInCell x (xs ++ ys)
  in_back [] ys x h = h
  in_back (z ∷ xs) ys x h = inr (in_back xs ys x h)

  distinct_parts : (xs ys : List A) → Distinct (xs ++ ys) → Distinct xs × Distinct ys × Disjoint xs ys
  distinct_parts [] ys d = (tt, d, λ x h k. absurd h)
  distinct_parts (z ∷ xs) ys d = let t = distinct_parts xs ys d.1 in (
    ((λ h. d.0 (in_front xs ys z h)), t.0),
    t.1,
    (λ x h k. ⊎_elim (λ (e : x ≡ z). d.0 (subst (λ w. IsInCell w (xs ++ ys)) e (in_back xs ys x k))) (λ (j : IsInCell x xs). t.2 x j k) h),
  )

  distinct_both : (xs ys : List A) → Distinct xs → Distinct ys → Disjoint xs ys → Distinct (xs ++ ys)
  distinct_both [] ys d e a = e
  distinct_both (z ∷ xs) ys d e a = (
    (λ h. ⊎_elim (λ (k : IsInCell z xs). d.0 k) (λ (k : IsInCell z ys). a z (inl refl) k) (in_parts xs ys z h)),
    distinct_both xs ys d.1 e (λ x h k. a x (inr h) k),
  )

  pub turned_in : (xs ys : List A) (x : A) → IsRotated xs ys → IsInCell x ys → IsInCell x xs
  turned_in xs ys x t h = subst (IsInCell x) (sym t.2)
      (⊎_elim (λ (k : IsInCell x t.1). in_back t.0 t.1 x k) (λ (k : IsInCell x t.0). in_front t.0 t.1 x k)
      (in_parts t.1 t.0 x (subst (IsInCell x) t.3 h)))

  pub turned_distinct : (xs ys : List A) → IsRotated xs ys → Distinct xs → Distinct ys
  turned_distinct xs ys t d = let p = distinct_parts t.0 t.1 (subst Distinct t.2 d) in
      subst Distinct (sym t.3) (distinct_both t.1 t.0 p.1 p.0 (λ x h k. p.2 x k h))

pub turned_out : {S : Type 0} (hs : List (Option S)) (xs ys : List ℕ) → IsRotated xs ys → Out hs xs → Out hs ys
turned_out hs xs ys t o h k = o h (turned_in xs ys h t k)

head_or : ℕ → List ℕ → ℕ
head_or d [] = d
head_or d (z ∷ zs) = z

tail_of : List ℕ → List ℕ
tail_of [] = []
tail_of (z ∷ zs) = zs

-- the first element goes behind the others
turn_parts : (xs front back : List ℕ) (c : ℕ) (cs : List ℕ) → xs ≡ front ++ back → c ∷ cs ≡ back ++ front → IsRotated xs (cs ++ c ∷ [])
unfolding head_or tail_of
turn_parts xs front [] c cs a b = (c ∷ [], cs, a ∙ (append-nil front ∙ sym b), refl)
turn_parts xs front (y ∷ back) c cs a b = (
  front ++ c ∷ [],
  back,
  a ∙ (ap (λ z. front ++ z ∷ back) (sym (ap (head_or c) b)) ∙ sym (append_assoc front (c ∷ []) back)),
  ap (λ z. z ++ c ∷ []) (ap tail_of b) ∙ append_assoc back front (c ∷ []),
)

module _ {S : Type 0} where
  turn_again : (xs : List ℕ) (c : ℕ × S) (cs : List (ℕ × S)) → IsRotated xs (held_slots (c ∷ cs)) → IsRotated xs (held_slots (cs ++ c ∷ []))
  turn_again xs c cs t = subst (IsRotated xs) (sym (map-append (λ (x : ℕ × S). x.0) cs (c ∷ [])))
      (turn_parts xs t.0 t.1 c.0 (held_slots cs) t.2 t.3)

  -- two parts of a list change places
  pub turned_round : (front back : List (ℕ × S)) (xs : List ℕ) → IsRotated xs (held_slots (front ++ back)) →
      IsRotated xs (held_slots (back ++ front))
  turned_round [] back xs t = subst (λ zs. IsRotated xs (held_slots zs)) (sym (append-nil back)) t
  turned_round (c ∷ front) back xs t = subst (λ zs. IsRotated xs (held_slots zs)) (append_assoc back (c ∷ []) front)
      (turned_round front (back ++ c ∷ []) xs
      (subst (λ zs. IsRotated xs (held_slots zs)) (append_assoc front back (c ∷ [])) (turn_again xs c (front ++ back) t)))

  last_of : (xs : List (ℕ × S)) (i : ℕ) → length xs ≡ i + 1 → (ys : List (ℕ × S)) × (y : ℕ × S) × (xs ≡ ys ++ y ∷ []) × (length ys ≡ i)
  last_of [] i e = absurd (omega arith)
  last_of (x ∷ []) i e = ([], x, refl, omega arith)
  last_of (x ∷ y ∷ xs) i e = let t = last_of (y ∷ xs) (i - 1) (omega arith) in let l : length t.0 ≡ i - 1 = t.3 in
      (x ∷ t.0, t.1, ap (λ zs. x ∷ zs) t.2, omega arith)

  -- one element more goes behind the others
  pub one_turn_more : (cs now : List (ℕ × S)) (i : ℕ) →
      ((front back : List (ℕ × S)) → cs ≡ front ++ back → length front ≡ i → now ≡ back ++ front) →
      (front back : List (ℕ × S)) → cs ≡ front ++ back → length front ≡ i + 1 → turned now ≡ back ++ front
  one_turn_more cs now i so front back e long =
      let t = last_of front i long in
      let split : cs ≡ t.0 ++ (t.1 ∷ back) = e ∙ (ap (λ zs. zs ++ back) t.2 ∙ append_assoc t.0 (t.1 ∷ []) back) in
      ap turned (so t.0 (t.1 ∷ back) split t.3) ∙ (append_assoc back t.0 (t.1 ∷ []) ∙ ap (λ zs. back ++ zs) (sym t.2))

  -- what stands before an element, and what behind it
  pub split_at : (xs : List (ℕ × S)) (at : ℕ) (x : ℕ × S) → get_elem? xs at ≡ some x →
      (front : List (ℕ × S)) × (back : List (ℕ × S)) × (xs ≡ front ++ x ∷ back) × (length front ≡ at)
  split_at [] at x e = absurd (some-ne-none x (sym e))
  split_at (y ∷ xs) zero x e = ([], xs, ap (λ z. z ∷ xs) (some-injective y x e), refl)
  split_at (y ∷ xs) (suc at) x e = let t = split_at xs at x e in (y ∷ t.0, t.1, ap (λ zs. y ∷ zs) t.2, ap suc t.3)

  pub none_turned : (cs front back : List (ℕ × S)) → cs ≡ front ++ back → length front ≡ 0 → cs ≡ back ++ front
  none_turned cs [] back e long = e ∙ sym (append-nil back)
  none_turned cs (x ∷ front) back e long = absurd (omega (arith, long))
