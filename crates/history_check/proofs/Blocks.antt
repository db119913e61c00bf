-- A block of operations, each of which stands as often as it may: an entry that is marked twice, and one operation more.
use Rattle.std.proofs.Common.{◌≡◌, ℕ, ◌+◌, ◌<◌, ◌≤◌, ◌-◌, Bool, true, nat_eq, List, length, take, get_or, slice_get}
use Rattle.std.proofs.Common.{Some, arith, refl, sym, subst, ◌∙◌, ap, ◌⊎◌, inl, inr}
use Rattle.std.specs.Prelude.{if◌then◌else◌}
use Rattle.std.proofs.lemmas.Bool.{cases_lt}
use Rattle.std.proofs.lemmas.Bool.Decides.{nat_tests}
use Rattle.std.proofs.lemmas.Option.{same_Some, slice_get_within, slice_get-get_or, slice_get_cases, slice_get_read}
use Rattle.history_core.specs.declared.history.Op.{Op}
use Rattle.history_core.specs.Orders.{times_of, MayStand, EachStands, ListsPlaces}
use Rattle.history_core.proofs.Counting.{stands_once, times_more, times_take_le}
use Rattle.history_check.specs.inner.Marks.{times_marked, HasMark}

-- an entry whose place is marked already
pub marked_twice : {R : Type 0} (ops : List (Op R)) (order : List ℕ) (base : ℕ) (seen : List Bool) (n : ℕ) →
    ListsPlaces ops order → n < length order →
    ((k : ℕ) → k < length seen → times_of (base + k) (take n order) ≡ times_marked seen k) →
    base ≤ get_or order n 0 → HasMark seen (get_or order n 0 - base) → EachStands ops order base (base + length seen) → ⊥
marked_twice {R} ops order base seen n places l counted le mark each =
    let p : ℕ = get_or order n 0 in
    let at : slice_get order n ≡ Some p = slice_get-get_or order n 0 l in
    let within : p < length ops = places n p at in
    let back : base + (p - base) ≡ p = omega arith in
    let once : times_of p (take n order) ≡ 1 =
    ap (λ q. times_of q (take n order)) (sym back) ∙ counted (p - base) mark.0 ∙ ap (λ b. if b then 1 else 0) mark.1 in
    let same : nat_eq p p ≡ true = grind (arith, nat_tests) in
    let twice : times_of p (take (n + 1) order) ≡ 2 =
    times_more order n p l ∙ ap (λ b. times_of p (take n order) + (if b then 1 else 0)) same ∙ ap (λ m. m + 1) once in
    elim (slice_get_cases ops p).1 [
      | inl w ↦
          let most : times_of p order ≤ 1 = stands_once w.0.ends w.0.kind _ (each p w.0 le (omega (arith, mark.0)) w.2) in
          omega (arith, times_take_le order (n + 1) p)
      | inr w ↦ omega arith
    ]

-- one more operation of the block
pub block_step : {R : Type 0} (ops : List (Op R)) (order : List ℕ) (base at : ℕ) (o : Op R) → o ≡ get_or ops (base + at) o →
    base + at < length ops → MayStand o.ends o.kind (times_of (base + at) order) → EachStands ops order base (base + at) →
    EachStands ops order base (base + (at + 1))
block_step {R} ops order base at o e l may before p a bp pa ea =
    elim (cases_lt p (base + at)) [ inl lt ↦ before p a bp lt ea | inr le ↦ here (omega arith) ]
  where
    here : p ≡ base + at → MayStand a.ends a.kind (times_of p order)
    here s =
        let there : slice_get ops (base + at) ≡ Some o = slice_get_read ops (length ops) (base + at) o refl l e in
        let q : o ≡ a = same_Some o a (sym there ∙ ap (slice_get ops) (sym s) ∙ ea) in
        let P : Op R → ℕ → Type 0 = λ z n. MayStand z.ends z.kind (times_of n order) in
        subst (λ z. P z p) q (subst (λ n. P o n) (sym s) may)

-- past the last operation there is none
pub block_all : {R : Type 0} (ops : List (Op R)) (order : List ℕ) (base at n : ℕ) → (n ≤ at) ⊎ (length ops ≤ base + at) →
    EachStands ops order base (base + at) → EachStands ops order base (base + n)
block_all ops order base at n h each p o bp pn e =
    each p o bp (elim h [ inl le ↦ omega arith | inr le ↦ omega (arith, slice_get_within ops p o e) ]) e
