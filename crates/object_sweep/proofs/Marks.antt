-- The marks of places that are all among others are among those of the others.
use Rattle.std.proofs.Common.{◌≡◌, ℕ, ◌+◌, ◌<◌, ◌≤◌, Bool, true, false, ◌||◌, not, cond, nat_eq, zero, suc, max, List, [], ◌∷◌}
use Rattle.std.proofs.Common.{drop, get_or, length, refl, sym, ◌∙◌, ap, subst, arith, ◌⊎◌, inl, inr}
use Rattle.std.specs.Prelude.{bit_and, bit_or}
use Rattle.std.specs.Int.{bit_at}
use Rattle.std.specs.Int.Bits.{or_zero_r}
use Rattle.std.proofs.lemmas.Bool.{and_parts, or_cases}
use Rattle.std.proofs.lemmas.Nat.Bits.{bit_at_and, bit_at_or, bit_at-zero, same_from_bits}
use Rattle.object_sweep.specs.inner.Steps.{has_sure}
use Rattle.object_sweep.specs.Marks.{joined, mark_of, marks_of, unsure_mark}
use Rattle.object_sweep.specs.Reached.{is_in, is_within}
use Rattle.object_sweep.proofs.Lists.{same_if}

-- each place has its mark among all of them
marked : (places : List ℕ) (p i : ℕ) → is_in p places ≡ true → bit_at (mark_of p) i ≤ bit_at (marks_of places) i
marked [] p i h = cc
marked (x ∷ places) p i h = by_cases (or_cases (nat_eq x p) (is_in p places) h) (marked places p i)
  where
    at : bit_at (marks_of (x ∷ places)) i ≡ max (bit_at (mark_of x) i) (bit_at (marks_of places) i)
    at = bit_at_or (mark_of x) (marks_of places) i

    by_cases : (nat_eq x p ≡ true) ⊎ (is_in p places ≡ true) →
        (is_in p places ≡ true → bit_at (mark_of p) i ≤ bit_at (marks_of places) i) →
        bit_at (mark_of p) i ≤ bit_at (marks_of (x ∷ places)) i
    by_cases (inl e) more =
        let same : bit_at (mark_of x) i ≡ bit_at (mark_of p) i = ap (λ z. bit_at (mark_of z) i) (same_if x p e) in
        omega (arith, at, same)
    by_cases (inr there) more = let l = more there in omega (arith, at, l)

marks_within : (places others : List ℕ) (i : ℕ) → is_within places others ≡ true → bit_at (marks_of places) i ≤ bit_at (marks_of others) i
marks_within [] others i h = let e = bit_at-zero i in omega (arith, e)
marks_within (x ∷ places) others i h =
    let parts = and_parts (is_in x others) (is_within places others) h in
    let first = marked others x i parts.0 in
    let rest = marks_within places others i parts.1 in
    let at = bit_at_or (mark_of x) (marks_of places) i in
    omega (arith, at, first, rest)

pub marks_among : (places others : List ℕ) → is_within places others ≡ true → bit_and (marks_of places) (marks_of others) ≡ marks_of places
marks_among places others h = same_from_bits (bit_and (marks_of places) (marks_of others)) (marks_of places) (λ i.
    let l = marks_within places others i h in
    let e = bit_at_and (marks_of places) (marks_of others) i in
    omega (arith, l, e))

-- where the sure ones of others are among places, each mark of the others is one of the places or of one that isn't sure
sure_within : (sure : ℕ → Bool) (places others : List ℕ) (i : ℕ) → has_sure sure places others ≡ true →
    bit_at (marks_of others) i ≤ max (bit_at (marks_of places) i) (bit_at (joined (unsure_mark sure) others) i)
sure_within sure places [] i h = let e = bit_at-zero i in omega (arith, e)
sure_within sure places (x ∷ others) i h =
    let parts = and_parts (is_in x places || not (sure x)) (has_sure sure places others) h in
    let rest = sure_within sure places others i parts.1 in
    let at = bit_at_or (mark_of x) (marks_of others) i in
    let also = bit_at_or (unsure_mark sure x) (joined (unsure_mark sure) others) i in
    let first = one (is_in x places) (sure x) refl parts.0 in
    omega (arith, at, also, first, rest)
  where
    one : (a b : Bool) → is_in x places ≡ a → (a || not b) ≡ true →
        bit_at (mark_of x) i ≤ max (bit_at (marks_of places) i) (bit_at (cond b 0 (mark_of x)) i)
    one true b e f = let l = marked places x i e in omega (arith, l)
    one false true e f = cc
    one false false e f = omega arith

pub marks_with_unsure : (sure : ℕ → Bool) (places others : List ℕ) → has_sure sure places others ≡ true →
    bit_and (marks_of others) (bit_or (marks_of places) (joined (unsure_mark sure) others)) ≡ marks_of others
marks_with_unsure sure places others h =
    let more = joined (unsure_mark sure) others in
    same_from_bits (bit_and (marks_of others) (bit_or (marks_of places) more)) (marks_of others) (λ i.
    let l = sure_within sure places others i h in
    let e = bit_at_and (marks_of others) (bit_or (marks_of places) more) i in
    let f = bit_at_or (marks_of places) more i in
    omega (arith, l, e, f))

-- three may be joined in either way
pub in_turn : (a b c : ℕ) → bit_or (bit_or a b) c ≡ bit_or a (bit_or b c)
in_turn a b c = same_from_bits (bit_or (bit_or a b) c) (bit_or a (bit_or b c)) (λ i.
    let x = bit_at_or (bit_or a b) c i in
    let y = bit_at_or a b i in
    let z = bit_at_or a (bit_or b c) i in
    let w = bit_at_or b c i in
    omega (arith, x, y, z, w))

-- one place after the other
pub peeled : (mark : ℕ → ℕ) (places : List ℕ) (i : ℕ) → i < length places →
    joined mark (drop i places) ≡ bit_or (mark (get_or places i 0)) (joined mark (drop (i + 1) places))
peeled mark [] i l = absurd (omega (arith, l))
peeled mark (x ∷ places) zero l = refl
peeled mark (x ∷ places) (suc i) l =
    let e : suc i + 1 ≡ suc (i + 1) = omega arith in
    let P : ℕ → Type 0 = λ z. joined mark (drop i places) ≡ bit_or (mark (get_or places i 0)) (joined mark (drop z (x ∷ places))) in
    subst P (sym e) (peeled mark places i (omega (arith, l)))

-- one mark more
pub one_more : (mark : ℕ → ℕ) (places : List ℕ) (marks i made : ℕ) → i < length places → made ≡ mark (get_or places i 0) →
    bit_or marks (joined mark (drop i places)) ≡ joined mark places →
    bit_or (bit_or marks made) (joined mark (drop (i + 1) places)) ≡ joined mark places
one_more mark places marks i made l e h =
    ap (λ z. bit_or (bit_or marks z) (joined mark (drop (i + 1) places))) e
    ∙ in_turn marks (mark (get_or places i 0)) (joined mark (drop (i + 1) places))
    ∙ ap (bit_or marks) (sym (peeled mark places i l)) ∙ h

-- and none is left
pub none_left : (mark : ℕ → ℕ) (places : List ℕ) (marks i : ℕ) → length places ≤ i →
    bit_or marks (joined mark (drop i places)) ≡ joined mark places → marks ≡ joined mark places
none_left mark places marks i l h = sym (or_zero_r marks) ∙ ap (λ z. bit_or marks (joined mark z)) (sym (past places i l)) ∙ h
  where
    past : (xs : List ℕ) (k : ℕ) → length xs ≤ k → drop k xs ≡ []
    past [] zero m = refl
    past [] (suc k) m = refl
    past (x ∷ xs) zero m = absurd (omega (arith, m))
    past (x ∷ xs) (suc k) m = past xs k (omega (arith, m))
