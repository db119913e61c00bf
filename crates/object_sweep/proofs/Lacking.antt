-- How many of the operations under way that are sure a configuration lacks: fewer, once one more is placed.
use Rattle.std.proofs.Common.{◌≡◌, ℕ, ◌+◌, ◌<◌, ◌≤◌, Bool, true, false, ◌||◌, nat_eq, List, [], ◌∷◌, ◌++◌}
use Rattle.std.proofs.Common.{refl, ◌∙◌, ap, arith, inl, inr}
use Rattle.std.proofs.lemmas.Bool.{or_cases}
use Rattle.object_sweep.specs.Reached.{is_in}
use Rattle.object_sweep.proofs.Lists.{is_in_push, same_if}
use Rattle.object_sweep.proofs.Placed.{same_number}

-- 1 for a place that is sure and isn't placed
abbrev pub lack : Bool → Bool → ℕ
lack false placed = 0
lack true true = 0
lack true false = 1

module _ (sure : ℕ → Bool) where
  abbrev pub lacking_of : List ℕ → List ℕ → ℕ
  lacking_of [] placed = 0
  lacking_of (x ∷ xs) placed = lack (sure x) (is_in x placed) + lacking_of xs placed

  -- others have all sure ones of these
  abbrev HasSure : List ℕ → List ℕ → Type 0
  HasSure placed others = (q : ℕ) → sure q ≡ true → is_in q placed ≡ true → is_in q others ≡ true

  few : (s a b : Bool) → (s ≡ true → a ≡ true → b ≡ true) → lack s b ≤ lack s a
  few false a b f = omega arith
  few true true true f = omega arith
  few true true false f = let e = f refl refl in cc
  few true false true f = omega arith
  few true false false f = omega arith

  no_more : (places placed others : List ℕ) → HasSure placed others → lacking_of places others ≤ lacking_of places placed
  no_more [] placed others all = omega arith
  no_more (x ∷ xs) placed others all =
      let one = few (sure x) (is_in x placed) (is_in x others) (all x) in
      let rest = no_more xs placed others all in omega (arith, one, rest)

  fewer : (places placed others : List ℕ) → HasSure placed others → (p : ℕ) → sure p ≡ true → is_in p places ≡ true →
      is_in p placed ≡ false → is_in p others ≡ true → lacking_of places others < lacking_of places placed
  fewer [] placed others all p is there free has = cc
  fewer (x ∷ xs) placed others all p is there free has = elim (or_cases (nat_eq x p) (is_in p xs) there) [
    | inl e ↦
        let s = same_if x p e in
        let before : lack (sure x) (is_in x placed) ≡ 1 = ap (λ z. lack (sure z) (is_in z placed)) s ∙ one_lacks (sure p) (is_in p placed)
        is
        free in
        let behind : lack (sure x) (is_in x others) ≡ 0 = ap (λ z. lack (sure z) (is_in z others)) s ∙ none_lacks (sure p) (is_in p others)
        has in
        let rest = no_more xs placed others all in omega (arith, before, behind, rest)
    | inr r ↦
        let one = few (sure x) (is_in x placed) (is_in x others) (all x) in
        let rest = fewer xs placed others all p is r free has in omega (arith, one, rest)
  ]
    where
      one_lacks : (a b : Bool) → a ≡ true → b ≡ false → lack a b ≡ 1
      one_lacks true false e f = refl
      one_lacks true true e f = cc
      one_lacks false b e f = cc

      none_lacks : (a b : Bool) → b ≡ true → lack a b ≡ 0
      none_lacks true true e = refl
      none_lacks true false e = cc
      none_lacks false b e = refl

  module _ (placed : List ℕ) (q : ℕ) (others : List ℕ) (more : HasSure (placed ++ q ∷ []) others) where
    or_true : (a b : Bool) → a ≡ true → (a || b) ≡ true
    or_true true b h = refl
    or_true false b h = cc

    true_or : (a b : Bool) → b ≡ true → (a || b) ≡ true
    true_or true b h = refl
    true_or false b h = h

    has_all : HasSure placed others
    has_all p is h = more p is (is_in_push placed q p ∙ or_true (is_in p placed) (nat_eq q p) h)

    has_it : sure q ≡ true → is_in q others ≡ true
    has_it is = more q is (is_in_push placed q q ∙ true_or (is_in q placed) (nat_eq q q) (same_number q))

    -- where these are placed and one more
    pub lacks_no_more : (places : List ℕ) → lacking_of places others ≤ lacking_of places placed
    lacks_no_more places = no_more places placed others has_all

    pub lacks_fewer : (places : List ℕ) → sure q ≡ true → is_in q places ≡ true → is_in q placed ≡ false →
        lacking_of places others < lacking_of places placed
    lacks_fewer places is there free = fewer places placed others has_all q is there free (has_it is)
