-- What has the sure ones of these.
use Rattle.std.proofs.Common.{◌≡◌, ℕ, Bool, true, false, ◌||◌, nat_eq, not, List, [], ◌∷◌, refl, subst, ◌⊎◌, inl, inr}
use Rattle.std.proofs.lemmas.Bool.{and_from, and_parts, or_cases}
use Rattle.object_sweep.specs.Reached.{is_in, is_within}
use Rattle.object_sweep.specs.inner.Steps.{has_sure}
use Rattle.object_sweep.proofs.Lists.{same_if}

-- all of them among them
pub all_sure : (sure : ℕ → Bool) (placed others : List ℕ) → is_within others placed ≡ true → has_sure sure placed others ≡ true
all_sure sure placed [] h = refl
all_sure sure placed (x ∷ others) h =
    let parts = and_parts (is_in x placed) (is_within others placed) h in
    and_from (is_in x placed || not (sure x)) (has_sure sure placed others) (or_true (is_in x placed) (not (sure x)) parts.0)
    (all_sure sure placed others parts.1)
  where
    or_true : (a b : Bool) → a ≡ true → (a || b) ≡ true
    or_true true b e = refl
    or_true false b e = cc

-- each sure one is placed
pub has_each : (sure : ℕ → Bool) (placed others : List ℕ) → has_sure sure placed others ≡ true → (q : ℕ) → sure q ≡ true →
    is_in q others ≡ true → is_in q placed ≡ true
has_each sure placed [] h q is there = cc
has_each sure placed (x ∷ others) h q is there =
    let parts = and_parts (is_in x placed || not (sure x)) (has_sure sure placed others) h in
    by_cases (or_cases (nat_eq x q) (is_in q others) there) parts.0 (has_each sure placed others parts.1 q is)
  where
    placed_one : (a b : Bool) → (a || not b) ≡ true → b ≡ true → a ≡ true
    placed_one true b e f = refl
    placed_one false true e f = e
    placed_one false false e f = cc

    by_cases : (nat_eq x q ≡ true) ⊎ (is_in q others ≡ true) → (is_in x placed || not (sure x)) ≡ true →
        (is_in q others ≡ true → is_in q placed ≡ true) → is_in q placed ≡ true
    by_cases (inl e) one rest =
        let P : ℕ → Type 0 = λ z. (is_in z placed || not (sure z)) ≡ true in
        placed_one (is_in q placed) (sure q) (subst P (same_if x q e) one) is
    by_cases (inr r) one rest = rest r
