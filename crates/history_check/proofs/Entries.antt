-- The entries of an order by their numbers, as a loop over it meets them.
use Rattle.std.proofs.Common.{◌≡◌, ℕ, ◌+◌, ◌<◌, ◌≤◌, Bool, nat_eq, List, length, take, get_or, None, arith, sym, ◌∙◌}
use Rattle.std.proofs.Common.{ap, subst, inl, inr}
use Rattle.std.specs.Prelude.{if◌then◌else◌}
use Rattle.std.proofs.lemmas.Bool.{cases_lt}
use Rattle.std.proofs.lemmas.Option.{none-some, same_Some, slice_get-get_or, slice_get_within}
use Rattle.history_core.specs.declared.history.Op.{Op}
use Rattle.history_core.specs.Orders.{ListsPlaces, times_of}
use Rattle.history_check.specs.inner.Marks.{AddsMark, times_marked}
use Rattle.history_check.proofs.Backwards.{IsLeastEnd}
use Rattle.history_core.proofs.Counting.{times_more}
use Rattle.history_core.proofs.Listed.{NoneBackFrom, listed_within}

-- where an order lists places alone each entry is one
pub entry_in : {R : Type 0} (ops : List (Op R)) (order : List ℕ) (i : ℕ) → ListsPlaces ops order → i < length order →
    get_or order i 0 < length ops
entry_in ops order i places l = places i _ (slice_get-get_or order i 0 l)

-- and the other way round
pub lists_all : {R : Type 0} (ops : List (Op R)) (order : List ℕ) (n : ℕ) → length order ≤ n →
    ((k : ℕ) → k < n → get_or order k 0 < length ops) → ListsPlaces ops order
lists_all ops order n le each i p e =
    let l : i < length order = slice_get_within order i p e in
    let same : get_or order i 0 ≡ p = same_Some _ _ (sym (slice_get-get_or order i 0 l) ∙ e) in
    subst (λ q. q < length ops) same (each i (omega arith))

-- what holds of all numbers below one, and of that one
pub one_more : (P : ℕ → Type 0) (n : ℕ) → ((k : ℕ) → k < n → P k) → P n → (k : ℕ) → k < n + 1 → P k
one_more P n before here k l = elim (cases_lt k n) [ inl lt ↦ before k lt | inr le ↦ subst P (omega arith) here ]

-- no entry stands at the end of an order
pub least_at_end : {R : Type 0} (ops : List (Op R)) (order : List ℕ) → IsLeastEnd ops order (length order) None
least_at_end ops order = record {
  bound = λ y b e iy at be. absurd (omega (arith, iy, listed_within ops order y b at));
  met = λ k e. absurd (none-some k e);
}

pub none_at_end : {R : Type 0} (ops : List (Op R)) (order : List ℕ) → NoneBackFrom ops order (length order)
none_at_end ops order x y a b ix xy ax by pre = omega (arith, ix, listed_within ops order x a ax)

-- one more entry adds its mark
pub marks_step : (order : List ℕ) (old new : List Bool) (base n : ℕ) → n < length order → length new ≡ length old →
    AddsMark old new base (get_or order n 0) → ((k : ℕ) → k < length old → times_of (base + k) (take n order) ≡ times_marked old k) →
    (k : ℕ) → k < length new → times_of (base + k) (take (n + 1) order) ≡ times_marked new k
marks_step order old new base n l long adds counted k below =
    let inside : k < length old = omega (arith, below, long) in
    times_more order n (base + k) l ∙ ap (λ t. t + (if nat_eq (get_or order n 0) (base + k) then 1 else 0)) (counted k inside)
    ∙ sym (adds k inside)
