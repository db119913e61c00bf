-- Steps without an operation: a schedule of some terms has none where none of its terms has one, and its first is the
-- first one of the first term that has one.
use Rattle.std.proofs.Common.{◌≡◌, ℕ, ◌+◌, ◌-◌, ◌*◌, ◌/◌, ◌%◌, ◌<◌, ◌≤◌, List, [], ◌∷◌, ◌++◌, length, take, slice_get, Option, None, Some}
use Rattle.std.proofs.Common.{inl, inr, refl, sym, subst, ◌∙◌, ap, arith}
use Rattle.std.proofs.Math.Nat.{mul-le-mul_left}
use Rattle.std.proofs.lemmas.Bool.{cases_lt}
use Rattle.std.proofs.lemmas.List.{take_at}
use Rattle.std.proofs.lemmas.Nat.{div-add-mod'}
use Rattle.std.proofs.lemmas.Option.{same_Some, slice_get_within, slice_get_past, slice_get_cases}
use Rattle.history_core.specs.declared.wish.Wish.{Wish}
use Rattle.history_core.specs.Schedules.{Span, planned, steps_of, steps_before, Overruns, OverrunsAt, IsFirstOverrun, HasOperations}
use Rattle.history_core.proofs.Played.{same_operation_number}
use Rattle.history_core.proofs.Places.{get_after}
use Rattle.history_core.proofs.Terms.{steps_in}

-- the operation of an actor's step number c
pub operation_number : (a c k r : ℕ) → c ≡ k * a + r → r < a → c / a ≡ k
operation_number a c k r e l = same_operation_number a (c / a) k (c % a) r (div-add-mod' c a ∙ e) (omega arith) l

-- without terms there are no steps
pub no_terms_have_operations : (R : Type 0) → HasOperations {R = R} []
no_terms_have_operations R p o = o

module _ {R : Type 0} where
  pub planned_in : (span : Span R) (who k : ℕ) (plan : List (Wish R)) → slice_get span.plans who ≡ Some plan →
      planned span who k ≡ slice_get plan k
  planned_in span who k plan e = cc

  -- the actor of a step has an operation left where it has made fewer steps than its plan has accesses
  pub has_left : (span : Span R) (step who : ℕ) (plan : List (Wish R)) → 0 < span.accesses → slice_get span.steps step ≡ Some who →
      slice_get span.plans who ≡ Some plan → steps_before span step who < length plan * span.accesses → ¬ Overruns span step
  has_left span step who plan some at in_plan less o =
      let c : ℕ = steps_before span step who in
      let same : o.0 ≡ who = same_Some o.0 who (sym o.1 ∙ at) in
      let none : slice_get plan (c / span.accesses) ≡ None = sym (planned_in span who (c / span.accesses) plan in_plan)
      ∙ ap (λ w. planned span w (steps_before span step w / span.accesses)) (sym same) ∙ o.2 in
      elim (slice_get_cases plan (c / span.accesses)).1 [
        | inl w ↦ let e = w.2 in cc
        | inr w ↦ absurd (omega (arith, div-add-mod' c span.accesses, mul-le-mul_left span.accesses w.0))
      ]

  -- and has none where it has made as many
  pub has_none_left : (span : Span R) (step who : ℕ) (plan : List (Wish R)) → 0 < span.accesses → slice_get span.steps step ≡ Some who →
      slice_get span.plans who ≡ Some plan → length plan * span.accesses ≤ steps_before span step who → Overruns span step
  has_none_left span step who plan some at in_plan le =
      let c : ℕ = steps_before span step who in
      let past : length plan ≤ c / span.accesses = elim (cases_lt (c / span.accesses) (length plan)) [
        | inl l ↦
            let h : c / span.accesses + 1 ≤ length plan = omega arith in
            absurd (omega (arith, div-add-mod' c span.accesses, mul-le-mul_left span.accesses h))
        | inr g ↦ g
      ] in
      (who, at, planned_in span who (c / span.accesses) plan in_plan ∙ slice_get_past plan (c / span.accesses) past)

  -- what the operation of a step is to do
  pub planned_here : (span : Span R) (step who k r : ℕ) → slice_get span.steps step ≡ Some who → ¬ Overruns span step →
      steps_of who (take step span.steps) ≡ k * span.accesses + r → r < span.accesses → (wish : Wish R) × (planned span who k ≡ Some wish)
  planned_here span step who k r at left c l = found (planned span who k) refl
    where
      found : (wish : Option (Wish R)) → planned span who k ≡ wish → (w : Wish R) × (planned span who k ≡ Some w)
      found None e = absurd (left (
        who,
        at,
        ap (planned span who) (operation_number span.accesses (steps_before span step who) k r c l) ∙ e,
      ))
      found (Some w) e = (w, e)

  -- the same for the step after those done so far
  pub planned_next : (span : Span R) (done rest : List ℕ) (who k r : ℕ) → span.steps ≡ done ++ who ∷ rest → ¬ Overruns span (length done) →
      steps_of who done ≡ k * span.accesses + r → r < span.accesses → (wish : Wish R) × (planned span who k ≡ Some wish)
  planned_next span done rest who k r e left c l =
      let at : slice_get span.steps (length done) ≡ Some who =
      ap (λ xs. slice_get xs (length done)) e ∙ ap (slice_get (done ++ who ∷ rest)) (omega arith) ∙ get_after done (who ∷ rest) 0 in
      let before : take (length done) span.steps ≡ done = ap (take (length done)) e ∙ take_at done (who ∷ rest) (length done) refl in
      planned_here span (length done) who k r at left (ap (steps_of who) before ∙ c) l

  -- a step that overruns is a step of its term
  overruns_within : (span : Span R) (step : ℕ) → Overruns span step → step < length span.steps
  overruns_within span step o = slice_get_within span.steps step o.0 o.1

  later_has_operations : (span : Span R) (spans : List (Span R)) → HasOperations (span ∷ spans) → HasOperations spans
  later_has_operations span spans h p o =
      let same : p ≡ (length span.steps + p) - length span.steps = omega arith in
      h (length span.steps + p) (inr (omega arith, subst (OverrunsAt spans) same o))

  pub one_term_has_operations : (span : Span R) → ((step : ℕ) → ¬ Overruns span step) → HasOperations (span ∷ [])
  one_term_has_operations span left p (inl o) = left p o
  one_term_has_operations span left p (inr w) = w.1

  pub each_has_operations : (spans : List (Span R)) (span : Span R) (later : List (Span R)) → HasOperations (spans ++ span ∷ later) →
      (step : ℕ) → ¬ Overruns span step
  each_has_operations [] span later h step o = h step (inl o)
  each_has_operations (s ∷ spans) span later h step o =
      each_has_operations spans span later (later_has_operations s (spans ++ span ∷ later) h) step o

  pub more_has_operations : (spans : List (Span R)) (span : Span R) → HasOperations spans → ((step : ℕ) → ¬ Overruns span step) →
      HasOperations (spans ++ span ∷ [])
  more_has_operations [] span h left p o = one_term_has_operations span left p o
  more_has_operations (s ∷ spans) span h left p o = elim o [
    | inl here ↦ h p (inl here)
    | inr w ↦ more_has_operations spans span (later_has_operations s spans h) left (p - length s.steps) w.1
  ]

  overruns_at : (spans : List (Span R)) (span : Span R) (later : List (Span R)) (step : ℕ) → Overruns span step →
      OverrunsAt (spans ++ span ∷ later) (steps_in spans + step)
  overruns_at [] span later step o = inl (subst (Overruns span) (omega arith) o)
  overruns_at (s ∷ spans) span later step o =
      let same : steps_in spans + step ≡ ((length s.steps + steps_in spans) + step) - length s.steps = omega arith in
      inr (omega arith, subst (OverrunsAt (spans ++ span ∷ later)) same (overruns_at spans span later step o))

  none_before : (spans : List (Span R)) (span : Span R) (later : List (Span R)) (step : ℕ) → HasOperations spans → step < length
      span.steps → ((q : ℕ) → q < step → ¬ Overruns span q) → (p : ℕ) → p < steps_in spans + step → ¬ OverrunsAt (spans ++ span ∷ later) p
  none_before [] span later step h l first p lp (inl o) = first p (omega arith) o
  none_before [] span later step h l first p lp (inr w) = absurd (omega (arith, w.0))
  none_before (s ∷ spans) span later step h l first p lp (inl o) = h p (inl o)
  none_before (s ∷ spans) span later step h l first p lp (inr w) =
      none_before spans span later step (later_has_operations s spans h) l first (p - length s.steps) (omega (arith, w.0)) w.1

  -- the first step without an operation, in the term after some that have none
  pub first_overrun : (spans : List (Span R)) (span : Span R) (later : List (Span R)) (step : ℕ) → HasOperations spans →
      Overruns span step → ((q : ℕ) → q < step → ¬ Overruns span q) → IsFirstOverrun (spans ++ span ∷ later) (steps_in spans + step)
  first_overrun spans span later step h o first = (
    overruns_at spans span later step o,
    none_before spans span later step h (overruns_within span step o) first,
  )

  pub one_term_first_overrun : (span : Span R) (step : ℕ) → Overruns span step → ((q : ℕ) → q < step → ¬ Overruns span q) →
      IsFirstOverrun (span ∷ []) step
  one_term_first_overrun span step o first = (
    inl o,
    λ p l. none_before [] span [] step (no_terms_have_operations R) (overruns_within span step o) first p (omega arith),
  )
