-- Lists of places, and one more element at the end of a list.
use Rattle.std.proofs.Common.{◌≡◌, ◌≢◌, ℕ, Bool, true, false, ◌||◌, not, cond, nat_eq, List, [], ◌∷◌, ◌++◌, length, slice_get}
use Rattle.std.proofs.Common.{Some, zero, suc, refl, sym, ◌∙◌, ap, subst, arith, ◌⊎◌, inl, inr}
use Rattle.std.proofs.lemmas.Bool.{cases_eq, or_cases, and_from, and_parts}
use Rattle.std.proofs.lemmas.Bool.Decides.{nat_tests}
use Rattle.object_sweep.specs.Reached.{is_closed, is_in, is_within, without}
use Rattle.object_sweep.proofs.Placed.{other_number, same_number}

pub same_if : (p q : ℕ) → nat_eq p q ≡ true → p ≡ q
same_if p q e = grind (arith, nat_tests)

pub turned : (p q : ℕ) → nat_eq p q ≡ nat_eq q p
turned p q = elim (cases_eq p q) [
  | inl e ↦ let P : ℕ → Type 0 = λ z. nat_eq p z ≡ nat_eq z p in subst P e refl
  | inr ne ↦ other_number p q ne ∙ sym (other_number q p (λ e. ne (sym e)))
]

-- at a place of the list
pub is_in_at : (places : List ℕ) (j q : ℕ) → slice_get places j ≡ Some q → is_in q places ≡ true
is_in_at [] j q e = cc
is_in_at (x ∷ xs) zero q e =
    let s : x ≡ q = cc in
    let t : nat_eq x q ≡ true = ap (λ z. nat_eq z q) s ∙ same_number q in
    rw t refl
is_in_at (x ∷ xs) (suc j) q e = or_right (nat_eq x q) (is_in q xs) (is_in_at xs j q e)
  where
    or_right : (a b : Bool) → b ≡ true → (a || b) ≡ true
    or_right true b h = refl
    or_right false b h = h

pub at_is_in : (places : List ℕ) (q : ℕ) → is_in q places ≡ true → (j : ℕ) × (slice_get places j ≡ Some q)
at_is_in [] q h = cc
at_is_in (x ∷ xs) q h = by_cases (or_cases (nat_eq x q) (is_in q xs) h) (at_is_in xs q)
  where
    by_cases : (nat_eq x q ≡ true) ⊎ (is_in q xs ≡ true) → (is_in q xs ≡ true → (j : ℕ) × (slice_get xs j ≡ Some q)) →
        (j : ℕ) × (slice_get (x ∷ xs) j ≡ Some q)
    by_cases (inl e) more = (0, ap Some (same_if x q e))
    by_cases (inr r) more = let a = more r in (suc a.0, a.1)

pub is_in_push : (places : List ℕ) (p q : ℕ) → is_in q (places ++ p ∷ []) ≡ (is_in q places || nat_eq p q)
is_in_push [] p q = or_false (nat_eq p q)
  where
    or_false : (a : Bool) → (a || false) ≡ a
    or_false true = refl
    or_false false = refl
is_in_push (x ∷ xs) p q = ap (λ b. nat_eq x q || b) (is_in_push xs p q) ∙ or_assoc (nat_eq x q) (is_in q xs) (nat_eq p q)
  where
    or_assoc : (a b c : Bool) → (a || (b || c)) ≡ ((a || b) || c)
    or_assoc true b c = refl
    or_assoc false b c = refl

-- all but one
pub without_none : (places : List ℕ) (p : ℕ) → is_in p places ≡ false → without p places ≡ places
without_none [] p h = refl
without_none (x ∷ xs) p h = by_test (nat_eq x p) refl h (without_none xs p)
  where
    by_test : (b : Bool) → nat_eq x p ≡ b → (b || is_in p xs) ≡ false → (is_in p xs ≡ false → without p xs ≡ xs) →
        without p (x ∷ xs) ≡ x ∷ xs
    by_test true e r more = cc
    by_test false e r more = ap (λ b. cond (not b) (x ∷ without p xs) (without p xs)) e ∙ ap (λ zs. x ∷ zs) (more r)

pub without_other : (places : List ℕ) (p q : ℕ) → p ≢ q → is_in q (without p places) ≡ is_in q places
without_other [] p q ne = refl
without_other (x ∷ xs) p q ne = by_test (nat_eq x p) refl (without_other xs p q ne)
  where
    by_test : (b : Bool) → nat_eq x p ≡ b → is_in q (without p xs) ≡ is_in q xs → is_in q (without p (x ∷ xs)) ≡ is_in q (x ∷ xs)
    by_test true e more =
        let s : x ≡ p = same_if x p e in
        let n : nat_eq x q ≡ false = other_number x q (λ z. ne (sym s ∙ z)) in
        ap (λ b. is_in q (cond (not b) (x ∷ without p xs) (without p xs))) e ∙ (more ∙ sym (ap (λ b. b || is_in q xs) n))
    by_test false e more =
        ap (λ b. is_in q (cond (not b) (x ∷ without p xs) (without p xs))) e ∙ ap (λ b. nat_eq x q || b) more

pub without_push : (places : List ℕ) (p : ℕ) → is_in p places ≡ false → without p (places ++ p ∷ []) ≡ places
without_push [] p h = ap (λ b. cond (not b) (p ∷ []) []) (same_number p)
without_push (x ∷ xs) p h = by_test (nat_eq x p) refl h (without_push xs p)
  where
    by_test : (b : Bool) → nat_eq x p ≡ b → (b || is_in p xs) ≡ false → (is_in p xs ≡ false → without p (xs ++ p ∷ []) ≡ xs) →
        without p ((x ∷ xs) ++ p ∷ []) ≡ x ∷ xs
    by_test true e r more = cc
    by_test false e r more =
        ap (λ b. cond (not b) (x ∷ without p (xs ++ p ∷ [])) (without p (xs ++ p ∷ []))) e ∙ ap (λ zs. x ∷ zs) (more r)

-- what a test of all means
pub within : (places others : List ℕ) → is_within places others ≡ true → (q : ℕ) → is_in q places ≡ true → is_in q others ≡ true
within [] others h q i = cc
within (x ∷ xs) others h q i = by_cases (or_cases (nat_eq x q) (is_in q xs) i) (λ r. within xs others parts.1 q r)
  where
    parts : (is_in x others ≡ true) × (is_within xs others ≡ true)
    parts = and_parts (is_in x others) (is_within xs others) h

    by_cases : (nat_eq x q ≡ true) ⊎ (is_in q xs ≡ true) → (is_in q xs ≡ true → is_in q others ≡ true) → is_in q others ≡ true
    by_cases (inl e) more = let P : ℕ → Type 0 = λ z. is_in z others ≡ true in subst P (same_if x q e) parts.0
    by_cases (inr r) more = more r

or_true : (a b : Bool) → b ≡ true → (a || b) ≡ true
or_true true b h = refl
or_true false b h = h

within_more : (places others : List ℕ) (x : ℕ) → is_within places others ≡ true → is_within places (x ∷ others) ≡ true
within_more [] others x h = refl
within_more (y ∷ ys) others x h =
    let p = and_parts (is_in y others) (is_within ys others) h in
    and_from (is_in y (x ∷ others)) (is_within ys (x ∷ others)) (or_true (nat_eq x y) (is_in y others) p.0) (within_more ys others x p.1)

pub within_itself : (places : List ℕ) → is_within places places ≡ true
within_itself [] = refl
within_itself (x ∷ xs) =
    and_from (is_in x (x ∷ xs)) (is_within xs (x ∷ xs)) (ap (λ b. b || is_in x xs) (same_number x)) (within_more xs xs x (within_itself xs))

same_test : (a b : Bool) → (a ≡ true → b ≡ true) → (b ≡ true → a ≡ true) → a ≡ b
same_test true b f g = sym (f refl)
same_test false true f g = g refl
same_test false false f g = refl

pub same_closed : (ended places others : List ℕ) → is_within places others ≡ true → is_within others places ≡ true → (q : ℕ) →
    is_closed ended places q ≡ is_closed ended others q
same_closed ended places others a b q =
    ap (λ z. is_in q ended || z) (same_test (is_in q places) (is_in q others) (within places others a q) (within others places b q))

-- one more, placed or ended
or_turned : (a b c : Bool) → ((a || b) || c) ≡ ((b || c) || a)
or_turned true true true = refl
or_turned true true false = refl
or_turned true false true = refl
or_turned true false false = refl
or_turned false true c = refl
or_turned false false true = refl
or_turned false false false = refl

or_grouped : (a b c : Bool) → (a || (b || c)) ≡ ((a || b) || c)
or_grouped true b c = refl
or_grouped false b c = refl

pub closed_ended : (ended placed : List ℕ) (p q : ℕ) → is_closed (p ∷ ended) placed q ≡ (is_closed ended placed q || nat_eq q p)
closed_ended ended placed p q =
    or_turned (nat_eq p q) (is_in q ended) (is_in q placed) ∙ ap (λ b. is_closed ended placed q || b) (turned p q)

pub closed_placed : (ended placed : List ℕ) (p q : ℕ) → is_closed ended (placed ++ p ∷ []) q ≡ (is_closed ended placed q || nat_eq q p)
closed_placed ended placed p q =
    ap (λ b. is_in q ended || b) (is_in_push placed p q) ∙ (or_grouped (is_in q ended) (is_in q placed) (nat_eq p q)
    ∙ ap (λ b. is_closed ended placed q || b) (turned p q))

-- the end of one that is placed closes nothing more
pub closed_behind : (ended placed : List ℕ) (p q : ℕ) → is_in p placed ≡ true →
    is_closed (p ∷ ended) (without p placed) q ≡ is_closed ended placed q
closed_behind ended placed p q h = elim (cases_eq p q) [
  | inl e ↦
      let P : ℕ → Type 0 = λ z. is_closed (p ∷ ended) (without p placed) z ≡ is_closed ended placed z in
      subst P e (here (nat_eq p p) (is_in p ended) (is_in p (without p placed)) (is_in p placed) (same_number p) h)
  | inr ne ↦
      ap (λ b. (nat_eq p q || is_in q ended) || b) (without_other placed p q ne)
      ∙ ap (λ b. (b || is_in q ended) || is_in q placed) (other_number p q ne)
]
  where
    here : (a b c d : Bool) → a ≡ true → d ≡ true → ((a || b) || c) ≡ (b || d)
    here true true c true e f = refl
    here true false c true e f = refl
    here a b c false e f = cc
    here false b c d e f = cc

-- and that of one that isn't, where it is left out
pub closed_left_out : (ended placed : List ℕ) (p q : ℕ) → is_in p placed ≡ false →
    is_closed (p ∷ ended) (without p placed) q ≡ (is_closed ended placed q || nat_eq q p)
closed_left_out ended placed p q h = ap (λ zs. is_closed (p ∷ ended) zs q) (without_none placed p h) ∙ closed_ended ended placed p q

-- one more element at the end of a list
module _ {X : Type 0} where
  pub get_front : (xs ys : List X) (i : ℕ) (x : X) → slice_get xs i ≡ Some x → slice_get (xs ++ ys) i ≡ Some x
  get_front [] ys i x e = cc
  get_front (y ∷ xs) ys zero x e = e
  get_front (y ∷ xs) ys (suc i) x e = get_front xs ys i x e

  pub get_last : (xs : List X) (y : X) → slice_get (xs ++ y ∷ []) (length xs) ≡ Some y
  get_last [] y = refl
  get_last (x ∷ xs) y = get_last xs y

  pub get_push : (xs : List X) (y : X) (i : ℕ) (x : X) → slice_get (xs ++ y ∷ []) i ≡ Some x →
      (slice_get xs i ≡ Some x) ⊎ ((i ≡ length xs) × (y ≡ x))
  get_push [] y zero x e = inr (refl, cc)
  get_push [] y (suc i) x e = cc
  get_push (z ∷ xs) y zero x e = inl e
  get_push (z ∷ xs) y (suc i) x e = more (get_push xs y i x e)
    where
      more : (slice_get xs i ≡ Some x) ⊎ ((i ≡ length xs) × (y ≡ x)) →
          (slice_get (z ∷ xs) (suc i) ≡ Some x) ⊎ ((suc i ≡ length (z ∷ xs)) × (y ≡ x))
      more (inl f) = inl f
      more (inr f) = inr (ap suc f.0, f.1)
