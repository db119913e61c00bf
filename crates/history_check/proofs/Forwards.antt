-- The latest record of the entries before a place: one more entry changes it only where it is a write.
use Rattle.std.proofs.Common.{◌≡◌, ℕ, ◌+◌, ◌<◌, ◌≤◌, List, length, take, get_or, slice_get, Option, Some, arith, sym, subst, ◌∙◌, ap, inl}
use Rattle.std.proofs.Common.{inr}
use Rattle.std.proofs.lemmas.Bool.{cases_lt}
use Rattle.std.proofs.lemmas.List.Sums.{fold_more}
use Rattle.std.proofs.lemmas.Option.{get_or_from_slice_get, option_and_then_some, same_Some, slice_get_within}
use Rattle.history_core.specs.declared.history.Op.{Op}
use Rattle.history_core.specs.Orders.{listed_at, latest, left_at, left_by, ReadsRight, ReadsLatest}
use Rattle.history_core.proofs.Listed.{listed_within}

-- the rule, for the entries before n
abbrev pub ReadsUpTo : {R : Type 0} → (R → R → Type 0) → R → List (Op R) → List ℕ → ℕ → Type 0
ReadsUpTo {R} Same opening ops order n =
    (i : ℕ) (o : Op R) → i < n → listed_at ops order i ≡ Some o → ReadsRight Same o.kind o.item (latest opening ops (take i order))

-- the latest record after one more entry
pub latest_step : {R : Type 0} (opening : R) (ops : List (Op R)) (order : List ℕ) (n : ℕ) (o : Op R) → listed_at ops order n ≡ Some o →
    latest opening ops (take (n + 1) order) ≡ left_by (latest opening ops (take n order)) o.kind o.item
latest_step opening ops order n o at =
    option_and_then_some (slice_get ops) (slice_get order n) o at (λ p e f.
    let within : n < length order = slice_get_within order n p e in
    let g : get_or order n 0 ≡ p = get_or_from_slice_get order n p 0 e in
    let more = fold_more (λ r q. left_at r (slice_get ops q)) (Some opening) order n 0 within in
    more ∙ ap (λ q. left_at (latest opening ops (take n order)) (slice_get ops q)) g ∙ ap (left_at (latest opening ops (take n order))) f)

pub reads_step : {R : Type 0} (Same : R → R → Type 0) (opening : R) (ops : List (Op R)) (order : List ℕ) (n : ℕ) (o : Op R) (r : R) →
    listed_at ops order n ≡ Some o → latest opening ops (take n order) ≡ Some r → ReadsRight Same o.kind o.item (Some r) →
    ReadsUpTo Same opening ops order n → ReadsUpTo Same opening ops order (n + 1)
reads_step {R} Same opening ops order n o r at held right before i a lt ai =
    elim (cases_lt i n) [ inl l ↦ before i a l ai | inr le ↦ here (omega arith) ]
  where
    here : i ≡ n → ReadsRight Same a.kind a.item (latest opening ops (take i order))
    here e =
        let q : a ≡ o = same_Some a o (sym ai ∙ ap (listed_at ops order) e ∙ at) in
        let P : Option R → Op R → Type 0 = λ w z. ReadsRight Same z.kind z.item w in
        let now : latest opening ops (take i order) ≡ Some r = ap (λ k. latest opening ops (take k order)) e ∙ held in
        subst (λ w. P w a) (sym now) (subst (λ z. P (Some r) z) (sym q) right)

pub reads_broken : {R : Type 0} (Same : R → R → Type 0) (opening : R) (ops : List (Op R)) (order : List ℕ) (n : ℕ) (o : Op R) (r : R) →
    listed_at ops order n ≡ Some o → latest opening ops (take n order) ≡ Some r → ReadsLatest Same opening ops order →
    ReadsRight Same o.kind o.item (Some r)
reads_broken {R} Same opening ops order n o r at held all =
    let P : Option R → Type 0 = λ w. ReadsRight Same o.kind o.item w in subst P held (all n o at)

pub reads_all : {R : Type 0} (Same : R → R → Type 0) (opening : R) (ops : List (Op R)) (order : List ℕ) (n : ℕ) → length order ≤ n →
    ReadsUpTo Same opening ops order n → ReadsLatest Same opening ops order
reads_all Same opening ops order n le h i o at = h i o (omega (arith, listed_within ops order i o at)) at
