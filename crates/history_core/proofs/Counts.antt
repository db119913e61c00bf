-- Counts of entries that pass a test: where each such place stands as often in another list, that has as many.
use Rattle.std.proofs.Common.{◌≡◌, ◌≢◌, ℕ, zero, suc, ◌+◌, ◌<◌, ◌≤◌, Bool, true, false, cond, List, [], ◌∷◌, ◌++◌, take}
use Rattle.std.proofs.Common.{◌∙◌, ap, arith, get_or, inl, inr, length, slice_get, Some, sym}
use Rattle.std.specs.Prelude.{nat_eq, nat_le, ◌&&◌, if◌then◌else◌}
use Rattle.std.specs.List.{count_by}
use Rattle.std.proofs.lemmas.Bool.{cases_Bool}
use Rattle.std.proofs.lemmas.Bool.Decides.{nat_tests}
use Rattle.std.proofs.lemmas.List.{take-take}
use Rattle.std.proofs.lemmas.List.Sums.{count_by_more_yes, count_by_more_no, sum_by-append, sum_by-cons, sum_by-take-le}
use Rattle.std.proofs.lemmas.Option.{same_Some}
use Rattle.history_core.specs.declared.history.Op.{Op}
use Rattle.history_core.specs.Orders.{in_term, is_write_at, times_of, writes_in}
use Rattle.history_core.proofs.Counting.{count_agree}
use Rattle.history_core.proofs.Listing.{times_cases}

pub count_cons : (test : ℕ → Bool) (x : ℕ) (xs : List ℕ) → count_by test (x ∷ xs) ≡ cond (test x) 1 0 + count_by test xs
count_cons test x xs = sum_by-cons (λ y. cond (test y) 1 0) x xs

count_put : (test : ℕ → Bool) (us vs : List ℕ) (x : ℕ) → count_by test (us ++ x ∷ vs) ≡ cond (test x) 1 0 + count_by test (us ++ vs)
count_put test us vs x =
    let a = sum_by-append (λ y. cond (test y) 1 0) us (x ∷ vs) in
    let b = sum_by-append (λ y. cond (test y) 1 0) us vs in
    let c = count_cons test x vs in
    omega arith

split : (ys : List ℕ) (i x : ℕ) → slice_get ys i ≡ Some x → (us : List ℕ) × (vs : List ℕ) × (ys ≡ us ++ x ∷ vs)
split [] i x h = cc
split (y ∷ ys) zero x h = ([], ys, ap (λ z. z ∷ ys) (same_Some y x h))
split (y ∷ ys) (suc i) x h = let w = split ys i x h in (y ∷ w.0, w.1, ap (λ zs. y ∷ zs) w.2)

pub times_self : (p : ℕ) (xs : List ℕ) → times_of p (p ∷ xs) ≡ 1 + times_of p xs
times_self p xs =
    let t : nat_eq p p ≡ true = grind (arith, nat_tests) in
    count_cons (λ q. nat_eq q p) p xs ∙ ap (λ b. cond b 1 0 + times_of p xs) t

pub times_apart : (p x : ℕ) (xs : List ℕ) → x ≢ p → times_of p (x ∷ xs) ≡ times_of p xs
times_apart p x xs ne =
    let f : nat_eq x p ≡ false = grind (arith, nat_tests) in
    count_cons (λ q. nat_eq q p) x xs ∙ ap (λ b. cond b 1 0 + times_of p xs) f ∙ omega arith

pub times_some : (p i : ℕ) (xs : List ℕ) → slice_get xs i ≡ Some p → 1 ≤ times_of p xs
times_some p i xs h =
    let w = split xs i p h in
    let t : nat_eq p p ≡ true = grind (arith, nat_tests) in
    let e : times_of p xs ≡ 1 + times_of p (w.0 ++ w.1) =
    ap (times_of p) w.2 ∙ count_put (λ q. nat_eq q p) w.0 w.1 p ∙ ap (λ b. cond b 1 0 + times_of p (w.0 ++ w.1)) t in
    omega arith

pub counted : (test : ℕ → Bool) (xs ys : List ℕ) → ((p : ℕ) → test p ≡ true → times_of p xs ≤ times_of p ys) →
    count_by test xs ≤ count_by test ys
counted test [] ys h = omega arith
counted test (x ∷ xs) ys h = elim (cases_Bool (test x)) [
  | inr f ↦
      let e : count_by test (x ∷ xs) ≡ count_by test xs = count_cons test x xs ∙ ap (λ b. cond b 1 0 + count_by test xs) f ∙ omega arith in
      let r : count_by test xs ≤ count_by test ys = counted test xs ys (λ p t.
      let c = count_cons (λ q. nat_eq q p) x xs in
      let l = h p t in
      omega arith) in
      omega arith
  | inl t ↦
      let e : count_by test (x ∷ xs) ≡ 1 + count_by test xs = count_cons test x xs ∙ ap (λ b. cond b 1 0 + count_by test xs) t in
      let some : 1 ≤ times_of x ys = let l = h x t in let s = times_self x xs in omega arith in
      elim (times_cases x ys) [
        | inr z ↦ absurd (omega arith)
        | inl i ↦
            let w = split ys i.0 x i.1 in
            let f : count_by test ys ≡ 1 + count_by test (w.0 ++ w.1) =
            ap (count_by test) w.2 ∙ count_put test w.0 w.1 x ∙ ap (λ b. cond b 1 0 + count_by test (w.0 ++ w.1)) t in
            let r : count_by test xs ≤ count_by test (w.0 ++ w.1) = counted test xs (w.0 ++ w.1) (λ p u.
            let c = count_cons (λ q. nat_eq q p) x xs in
            let d : times_of p ys ≡ cond (nat_eq x p) 1 0 + times_of p (w.0 ++ w.1) =
            ap (times_of p) w.2 ∙ count_put (λ q. nat_eq q p) w.0 w.1 x in
            let l = h p u in
            omega arith) in
            omega arith
      ]
]

pub count_up : (test : ℕ → Bool) (xs : List ℕ) (m n : ℕ) → m ≤ n → count_by test (take m xs) ≤ count_by test (take n xs)
count_up test xs m n le =
    let e : count_by test (take m (take n xs)) ≡ count_by test (take m xs) = ap (count_by test) (take-take m n xs le) in
    let h : count_by test (take m (take n xs)) ≤ count_by test (take n xs) = sum_by-take-le (λ x. cond (test x) 1 0) (take n xs) m in
    omega arith

pub get_front : {X : Type 0} (xs : List X) (n k : ℕ) (x : X) → slice_get (take n xs) k ≡ Some x → (k < n) × (slice_get xs k ≡ Some x)
get_front [] zero k x h = cc
get_front [] (suc n) k x h = cc
get_front (y ∷ xs) zero k x h = cc
get_front (y ∷ xs) (suc n) zero x h = (omega arith, h)
get_front (y ∷ xs) (suc n) (suc k) x h = let w = get_front xs n k x h in let l : k < n = w.0 in (omega arith, w.1)

pub front_get : {X : Type 0} (xs : List X) (n k : ℕ) (x : X) → k < n → slice_get xs k ≡ Some x → slice_get (take n xs) k ≡ Some x
front_get [] n k x l h = cc
front_get (y ∷ xs) zero k x l h = absurd (omega arith)
front_get (y ∷ xs) (suc n) zero x l h = h
front_get (y ∷ xs) (suc n) (suc k) x l h = front_get xs n k x (omega arith) h

-- in a history of one term all writes are of it
pub of_one_term : {R : Type 0} (limit : ℕ) (ops : List (Op R)) (order : List ℕ) →
    writes_in (in_term (record { first = 0; limit = limit }) []) ops order ≡ writes_in (λ _. true) ops order
of_one_term limit ops order =
    count_agree (λ q. in_term (record { first = 0; limit = limit }) [] q && is_write_at (slice_get ops q))
    (λ q. true && is_write_at (slice_get ops q)) order
    (λ i p e. let t : nat_le 0 p ≡ true = grind (arith, nat_tests) in ap (λ b. (b && true) && is_write_at (slice_get ops p)) t)

-- one more entry, which is a write or not
pub writes_next : {R : Type 0} (ops : List (Op R)) (order : List ℕ) (n : ℕ) → n < length order →
    writes_in (λ _. true) ops (take (n + 1) order)
    ≡ writes_in (λ _. true) ops (take n order) + (if is_write_at (slice_get ops (get_or order n 0)) then 1 else 0)
writes_next ops order n l = elim (cases_Bool (is_write_at (slice_get ops (get_or order n 0)))) [
  | inl t ↦ count_by_more_yes (λ q. true && is_write_at (slice_get ops q)) order n 0 l t
      ∙ ap (λ b. writes_in (λ _. true) ops (take n order) + (if b then 1 else 0)) (sym t)
  | inr f ↦ count_by_more_no (λ q. true && is_write_at (slice_get ops q)) order n 0 l f ∙ omega arith
      ∙ ap (λ b. writes_in (λ _. true) ops (take n order) + (if b then 1 else 0)) (sym f)
]
