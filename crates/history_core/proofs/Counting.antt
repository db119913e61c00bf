-- How often an order lists a place: one more entry adds one to the count of its own place and to no other.
use Rattle.std.proofs.Common.{◌≡◌, ℕ, ◌+◌, ◌<◌, ◌≤◌, Bool, cond, nat_eq, List, [], ◌∷◌, length, take, get_or, slice_get, Option}
use Rattle.std.proofs.Common.{None, Some, arith, refl, sym, ◌∙◌, ap, inl, inr, suc}
use Rattle.std.specs.List.{count_by}
use Rattle.std.specs.Prelude.{if◌then◌else◌}
use Rattle.std.proofs.lemmas.Bool.{cases_Bool}
use Rattle.std.proofs.lemmas.List.Sums.{count_by_more_yes, count_by_more_no, sum_by-cons, sum_by-take-le}
use Rattle.history_core.specs.declared.history.Kind.{Kind}
use Rattle.history_core.specs.declared.history.Kind.TheVariants.{Write, Read, Refused}
use Rattle.history_core.specs.Orders.{times_of, MayStand}

-- one more entry
pub times_more : (order : List ℕ) (n p : ℕ) → n < length order →
    times_of p (take (n + 1) order) ≡ times_of p (take n order) + (if nat_eq (get_or order n 0) p then 1 else 0)
times_more order n p h = elim (cases_Bool (nat_eq (get_or order n 0) p)) [
  | inl t ↦ count_by_more_yes (λ q. nat_eq q p) order n 0 h t ∙ ap (λ b. times_of p (take n order) + (if b then 1 else 0)) (sym t)
  | inr f ↦
      count_by_more_no (λ q. nat_eq q p) order n 0 h f ∙ omega arith ∙ ap (λ b. times_of p (take n order) + (if b then 1 else 0)) (sym f)
]

pub times_take_le : (order : List ℕ) (n p : ℕ) → times_of p (take n order) ≤ times_of p order
times_take_le order n p = sum_by-take-le (λ q. cond (nat_eq q p) 1 0) order n

-- at most once, whatever the operation
pub stands_once : (ends : Option ℕ) (kind : Kind) (n : ℕ) → MayStand ends kind n → n ≤ 1
stands_once (Some e) kind n h = omega arith
stands_once None Write n h = h
stands_once None Read n h = omega arith
stands_once None Refused n h = omega arith

-- counts by two tests that agree
pub count_agree : (f g : ℕ → Bool) (xs : List ℕ) → ((i p : ℕ) → slice_get xs i ≡ Some p → f p ≡ g p) → count_by f xs ≡ count_by g xs
count_agree f g [] h = refl
count_agree f g (x ∷ xs) h =
    let e : f x ≡ g x = h 0 x refl in
    let r : count_by f xs ≡ count_by g xs = count_agree f g xs (λ i p q. h (suc i) p q) in
    sum_by-cons (λ y. cond (f y) 1 0) x xs ∙ ap (λ b. cond b 1 0 + count_by f xs) e ∙ ap (λ n. cond (g x) 1 0 + n) r
    ∙ sym (sum_by-cons (λ y. cond (g y) 1 0) x xs)
