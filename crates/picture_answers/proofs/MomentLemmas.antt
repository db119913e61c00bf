-- The rank of a moment among moments that rise.
use Rattle.std.proofs.Common.{rules, tests, ◌≡◌, ◌∙◌, ◌++◌, ◌+◌, ◌<◌, ◌≤◌, ◌⊎◌, inl, inr, ℕ, zero, suc, List, [], ◌∷◌, ap, arith, cond}
use Rattle.std.proofs.Common.{Bool, true, false, Ok, Err, append-nil, get_or, length, map, sym, take}
use Rattle.std.specs.Prelude.{nat_lt}
use Rattle.std.specs.List.{flat_map}
use Rattle.std.specs.List.Sorted.{IsBinarySearchResult, IsStrictlyIncreasing}
use Rattle.std.specs.Ordering.{nat_cmp}
use Rattle.std.proofs.lemmas.List.{map-append, take_more}
use Rattle.std.proofs.lemmas.List.Kept.{AllPairs-from_increasing}
use Rattle.std.proofs.lemmas.List.Sorted.{searched}
use Rattle.std.proofs.lemmas.List.Sums.{sum_by-cons}
use Rattle.std.proofs.lemmas.Bool.{cases_order}
use Rattle.std.proofs.lemmas.Grind.{flat_map-append}
use Rattle.picture_answers.specs.Moments.{rank_in}

abbrev one_before : ℕ → ℕ → ℕ
one_before moment m = cond (nat_lt m moment) 1 0

-- if the first ones come before a moment and the others don't, its rank is the number of the first ones
pub count_is : (xs : List ℕ) (moment r : ℕ) → r ≤ length xs → ((k : ℕ) → k < r → get_or xs k 0 < moment)
    → ((k : ℕ) → r ≤ k → k < length xs → moment ≤ get_or xs k 0) → rank_in xs moment ≡ r
count_is [] moment r within before from = omega (arith, within)
count_is (x ∷ xs) moment zero within before from =
    let later : moment ≤ x = from 0 (omega arith) (omega arith) in
    let isnt : nat_lt x moment ≡ false = search (rules, tests) in
    let none : one_before moment x ≡ 0 = ap (λ (b : Bool). cond b 1 0) isnt in
    let rest : rank_in xs moment ≡ 0 =
    count_is xs moment 0 (omega arith) (λ k less. absurd (omega (arith, less)))
    (λ k more less. from (suc k) (omega arith) (omega (arith, less))) in
    omega (arith, sum_by-cons (one_before moment) x xs, none, rest)
count_is (x ∷ xs) moment (suc r) within before from =
    let earlier : x < moment = before 0 (omega arith) in
    let is : nat_lt x moment ≡ true = search (rules, tests) in
    let one : one_before moment x ≡ 1 = ap (λ (b : Bool). cond b 1 0) is in
    let rest : rank_in xs moment ≡ r =
    count_is xs moment r (omega (arith, within)) (λ k less. before (suc k) (omega (arith, less)))
    (λ k more less. from (suc k) (omega (arith, more)) (omega (arith, less))) in
    omega (arith, sum_by-cons (one_before moment) x xs, one, rest)

rises : (xs : List ℕ) → IsStrictlyIncreasing xs → (i j : ℕ) → i ≤ j → j < length xs → get_or xs i 0 ≤ get_or xs j 0
rises xs up i j le less = by_order (cases_order i j)
  where
    by_order : (i ≡ j) ⊎ ((i < j) ⊎ (j < i)) → get_or xs i 0 ≤ get_or xs j 0
    by_order (inl same) = let e : get_or xs i 0 ≡ get_or xs j 0 = ap (λ (n : ℕ). get_or xs n 0) same in omega (arith, e)
    by_order (inr (inl before)) =
        let l : get_or xs i 0 < get_or xs j 0 = AllPairs-from_increasing xs up i j 0 before less in omega (arith, l)
    by_order (inr (inr after)) = absurd (omega (arith, after, le))

-- what a binary search finds or not is the rank
pub found_rank : (xs : List ℕ) (moment i : ℕ) → IsStrictlyIncreasing xs → IsBinarySearchResult (λ y. nat_cmp y moment) xs (Ok i)
    → i ≡ rank_in xs moment
found_rank xs moment i up found =
    let at = searched xs moment (Ok i) found (rises xs up) in
    sym (count_is xs moment i (omega (arith, at.0))
    (λ k less. let l : get_or xs k 0 < get_or xs i 0 = AllPairs-from_increasing xs up k i 0 less at.0 in omega (arith, l, at.1))
    (λ k more less. let l : get_or xs i 0 ≤ get_or xs k 0 = rises xs up i k more less in omega (arith, l, at.1)))

pub missed_rank : (xs : List ℕ) (moment i : ℕ) → IsStrictlyIncreasing xs → IsBinarySearchResult (λ y. nat_cmp y moment) xs (Err i)
    → i ≡ rank_in xs moment
missed_rank xs moment i up missed =
    let at = searched xs moment (Err i) missed (rises xs up) in
    sym (count_is xs moment i at.0 at.1
    (λ k more less. let l : moment < get_or xs k 0 = at.2 k more less in omega (arith, l)))

-- one more element of those of a list
pub mapped_more : {X Y : Type 0} (f : X → Y) (done new : List Y) (xs : List X) (i : ℕ) (d : X) → i < length xs
    → done ≡ map f (take i xs) → new ≡ done ++ f (get_or xs i d) ∷ [] → new ≡ map f (take (i + 1) xs)
mapped_more {X} {Y} f done new xs i d less so_far pushed =
    pushed ∙ ap (λ (l : List Y). l ++ f (get_or xs i d) ∷ []) so_far ∙ sym (map-append f (take i xs) (get_or xs i d ∷ []))
    ∙ sym (ap (map f) (take_more xs i d less))

pub gathered_more : {X : Type 0} (f : X → List ℕ) (done new : List ℕ) (xs : List X) (i : ℕ) (d : X) → i < length xs
    → done ≡ flat_map f (take i xs) → new ≡ done ++ f (get_or xs i d) → new ≡ flat_map f (take (i + 1) xs)
gathered_more f done new xs i d less so_far next =
    let last : flat_map f (get_or xs i d ∷ []) ≡ f (get_or xs i d) = append-nil (f (get_or xs i d)) in
    next ∙ ap (λ (l : List ℕ). l ++ f (get_or xs i d)) so_far
    ∙ sym (ap (flat_map f) (take_more xs i d less) ∙ flat_map-append f (take i xs) (get_or xs i d ∷ [])
    ∙ ap (λ (l : List ℕ). flat_map f (take i xs) ++ l) last)
