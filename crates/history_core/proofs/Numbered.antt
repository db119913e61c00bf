-- Orders by number keep precedence: where b stands before a that precedes it, both have one number, and then by its kind b
-- can't stand first.
use Rattle.std.proofs.Common.{◌≡◌, ℕ, ◌<◌, ◌≤◌, List, slice_get, Option, subst, inl, inr, arith}
use Rattle.std.specs.Prelude.{IfSome}
use Rattle.std.proofs.lemmas.Bool.{cases_lt, cases_Bool}
use Rattle.std.proofs.lemmas.Option.{option_and_then_some}
use Rattle.history_core.specs.declared.history.Op.{Op}
use Rattle.history_core.specs.Numbers.{IsByNumber, StandsAt}
use Rattle.history_core.specs.Orders.{is_write, KeepsPrecedence, Precedes}
use Rattle.history_core.proofs.Listed.{some_and_of}

module _ {R : Type 0} where
  -- b stands before a, and a precedes b
  no_turn : (number : ℕ → ℕ) (ops : List (Op R)) (order : List ℕ) → IsByNumber number ops order → (i j p q : ℕ) (a b : Op R) →
      StandsAt ops order i p a → StandsAt ops order j q b → j < i → Precedes a b → ⊥
  no_turn number ops order h i j p q a b ai bj ji pre =
      let up : number p ≤ number q = h.rises i j p q a b ai bj pre in
      let down : number q ≤ number p = h.sorted j i q p b a bj ai ji in
      let same : number q ≡ number p = omega arith in
      elim (cases_Bool (is_write b.kind)) [
        | inl w ↦ h.after_write j i q p b a bj ai ji same w pre
        | inr n ↦
            let le : b.starts ≤ a.starts = h.by_beginning j i q p b a bj ai ji same n in
            let e = some_and_of (λ end. end < b.starts) a.ends pre in
            let P : Option ℕ → Type 0 = λ o. IfSome o (λ end. a.starts ≤ end) in
            let f : a.starts ≤ e.0 = subst P e.1 (h.forwards i p a ai) in
            omega (arith, e.2)
      ]

  pub keeps_by_number : (number : ℕ → ℕ) (ops : List (Op R)) (order : List ℕ) → IsByNumber number ops order → KeepsPrecedence ops order
  keeps_by_number number ops order h i j a b ai bj ne pre = elim (cases_lt i j) [
    | inl l ↦ l
    | inr le ↦ option_and_then_some (slice_get ops) (slice_get order i) a ai (λ p ei fi.
        option_and_then_some (slice_get ops) (slice_get order j) b bj (λ q ej fj.
        absurd (no_turn number ops order h i j p q a b (ei, fi) (ej, fj) (omega arith) pre)))
  ]
