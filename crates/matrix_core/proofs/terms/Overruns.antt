-- A step without an operation: its process has made as many steps as its plan has accesses.
use Rattle.std.proofs.Common.{◌≡◌, ◌≢◌, ℕ, ◌+◌, ◌/◌, ◌<◌, ◌≤◌, List, [], ◌∷◌, ◌++◌, length, take, drop, get_or, set, refl, sym, ◌∙◌}
use Rattle.std.proofs.Common.{ap, subst, arith, ⊎_elim}
use Rattle.std.specs.Prelude.{slice_get, Some, None}
use Rattle.std.proofs.lemmas.Option.{same_Some, none-some, slice_get_within}
use Rattle.std.proofs.lemmas.List.{get_or-set_same, get_or-set_other, length-set}
use Rattle.history_core.specs.declared.wish.Wish.{Wish}
use Rattle.history_core.specs.Schedules.{steps_of, planned, Overruns, HasOperations, IsFirstOverrun}
use Rattle.history_core.proofs.Positions.{steps_mine, steps_other}
use Rattle.history_core.proofs.Terms.{steps_in}
use Rattle.history_core.proofs.Overruns.{planned_in, more_has_operations, first_overrun, each_has_operations}
use Rattle.matrix_core.specs.declared.schedule.MatrixTerm.{MatrixTerm}
use Rattle.matrix_core.specs.Runs.{accesses_by, span_by, spans_by, step_count}
use Rattle.matrix_core.specs.declared.overruns.Cells.{Cells}
use Rattle.matrix_core.proofs.lists.Elements.{same_or_not, split_at, take_next, get_exists, drop_next}

module _ {R : Type 0} (cells : Cells) (term : MatrixTerm R) where
  pub has_operation : (i who c : ℕ) (plan : List (Wish R)) → slice_get term.steps i ≡ Some who → slice_get term.plans who ≡ Some plan →
      c ≡ steps_of who (take i term.steps)
      → c / accesses_by cells (length term.plans) < length plan → ¬ Overruns (span_by cells term) i
  has_operation i who c plan h p e l o =
      let w : o.0 ≡ who = same_Some o.0 who (sym o.1 ∙ h) in
      let x = get_exists plan (c / accesses_by cells (length term.plans)) l in
      let none : planned (span_by cells term) who (c / accesses_by cells (length term.plans)) ≡ None
      = ap (λ n. planned (span_by cells term) who (n / accesses_by cells (length term.plans))) e ∙ (ap (λ v.
      planned (span_by cells term) v (steps_of v (take i term.steps) / accesses_by cells (length term.plans))) (sym w) ∙ o.2) in
      none-some x.0 (sym none ∙ (planned_in (span_by cells term) who (c / accesses_by cells (length term.plans)) plan p ∙ x.1))

-- the steps that each process has made among the first i
pub record IsCount (steps : List ℕ) (i : ℕ) (made : List ℕ) : Type 0 where
  pub long : length made ≡ 16
  pub each : (w : ℕ) → w < 16 → get_or made w 0 ≡ steps_of w (take i steps)

pub count_more : (steps made : List ℕ) (i who : ℕ) → slice_get steps i ≡ Some who → who < 16 → IsCount steps i made →
    IsCount steps (i + 1) (set made who (get_or made who 0 + 1))
count_more steps made i who h lw c = record {
  long = length-set made who (get_or made who 0 + 1) ∙ c.long;
  each = λ w l. ⊎_elim
      (λ (e : w ≡ who). let lt : who < length made = let z = c.long in omega arith in
      rw e (get_or-set_same made who (get_or made who 0 + 1) 0 lt
      ∙ (ap (λ n. n + 1) (c.each who lw) ∙ (sym (steps_mine who (take i steps)) ∙ ap (steps_of who) (sym (take_next steps i who h))))))
      (λ (ne : w ≢ who). get_or-set_other made who w (get_or made who 0 + 1) 0 ne
      ∙ (c.each w l ∙ (sym (steps_other w who (take i steps) (λ z. ne (sym z))) ∙ ap (steps_of w) (sym (take_next steps i who h)))))
      (same_or_not w who);
}

pub below_next : {P : ℕ → Type 0} (i : ℕ) → ((q : ℕ) → q < i → P q) → P i → (q : ℕ) → q < i + 1 → P q
below_next {P} i below here q l = ⊎_elim (λ (e : q ≡ i). subst P (sym e) here) (λ (ne : q ≢ i). below q (omega arith)) (same_or_not q i)

-- no step stands past the end
pub counted_beyond : {R : Type 0} (cells : Cells) (term : MatrixTerm R) (i : ℕ) → length term.steps ≤ i →
    ((q : ℕ) → q < i → ¬ Overruns (span_by cells term) q) → (step : ℕ) → ¬ Overruns (span_by cells term) step
counted_beyond cells term i l before step o =
    let lt : step < length term.steps = slice_get_within term.steps step o.0 o.1 in
    before step (omega arith) o

-- the terms so far, each step of which has an operation
module _ {R : Type 0} (cells : Cells) where
  pub spans_more : (terms : List (MatrixTerm R)) (term : MatrixTerm R) →
      spans_by cells (terms ++ term ∷ []) ≡ spans_by cells terms ++ span_by cells term ∷ []
  spans_more [] term = refl
  spans_more (t ∷ terms) term = ap (λ ss. span_by cells t ∷ ss) (spans_more terms term)

  pub spans_join : (terms later : List (MatrixTerm R)) → spans_by cells (terms ++ later) ≡ spans_by cells terms ++ spans_by cells later
  spans_join [] later = refl
  spans_join (t ∷ terms) later = ap (λ ss. span_by cells t ∷ ss) (spans_join terms later)

  pub steps_are : (terms : List (MatrixTerm R)) → steps_in (spans_by cells terms) ≡ step_count terms
  steps_are [] = refl
  steps_are (t ∷ terms) = ap (λ n. length t.steps + n) (steps_are terms)

  pub count_join : (terms later : List (MatrixTerm R)) → step_count (terms ++ later) ≡ step_count terms + step_count later
  count_join [] later = omega arith
  count_join (t ∷ terms) later = let e = count_join terms later in omega arith

  pub count_next : (terms : List (MatrixTerm R)) (i : ℕ) (term : MatrixTerm R) → slice_get terms i ≡ Some term →
      step_count (take (i + 1) terms) ≡ step_count (take i terms) + length term.steps
  count_next terms i term h =
      let c : step_count (take i terms ++ term ∷ []) ≡ step_count (take i terms) + step_count (term ∷ []) =
      count_join (take i terms) (term ∷ []) in
      let z : step_count (take (i + 1) terms) ≡ step_count (take i terms ++ term ∷ []) = ap step_count (take_next terms i term h) in
      omega arith

  pub record IsBefore (terms : List (MatrixTerm R)) (i before : ℕ) : Type 0 where
    pub is : before ≡ step_count (take i terms)
    pub left : HasOperations (spans_by cells (take i terms))

  -- one term more
  pub before_more : (terms : List (MatrixTerm R)) (i before : ℕ) (term : MatrixTerm R) → slice_get terms i ≡ Some term →
      ((step : ℕ) → ¬ Overruns (span_by cells term) step) → IsBefore terms i before
      → IsBefore terms (i + 1) (before + length term.steps)
  before_more terms i before term h left b =
      let e : take (i + 1) terms ≡ take i terms ++ term ∷ [] = take_next terms i term h in
      record {
        is =
            let c : step_count (take i terms ++ term ∷ []) ≡ step_count (take i terms) + step_count (term ∷ []) =
            count_join (take i terms) (term ∷ []) in
            let d : before ≡ step_count (take i terms) = b.is in
            let z : step_count (take (i + 1) terms) ≡ step_count (take i terms ++ term ∷ []) = ap step_count e in omega arith;
        left = rw e
            (rw (spans_more (take i terms) term) (more_has_operations (spans_by cells (take i terms)) (span_by cells term) b.left left));
      }

  pub before_room : (terms : List (MatrixTerm R)) (i before : ℕ) (term : MatrixTerm R) → slice_get terms i ≡ Some term →
      IsBefore terms i before → before + length term.steps ≤ step_count terms
  before_room terms i before term h b =
      let s : terms ≡ take i terms ++ term ∷ drop (i + 1) terms = split_at terms i term h in
      let c : step_count (take i terms ++ term ∷ drop (i + 1) terms) ≡ step_count (take i terms) + step_count (term ∷ drop (i + 1) terms) =
      count_join (take i terms) (term ∷ drop (i + 1) terms) in
      let z : step_count terms ≡ step_count (take i terms ++ term ∷ drop (i + 1) terms) = ap step_count s in
      let d : before ≡ step_count (take i terms) = b.is in omega arith

  pub before_first : (terms : List (MatrixTerm R)) (i before step : ℕ) (term : MatrixTerm R) → slice_get terms i ≡ Some term →
      IsBefore terms i before → Overruns (span_by cells term) step
      → ((q : ℕ) → q < step → ¬ Overruns (span_by cells term) q) → IsFirstOverrun (spans_by cells terms) (before + step)
  before_first terms i before step term h b o first =
      let s : terms ≡ take i terms ++ term ∷ drop (i + 1) terms = split_at terms i term h in
      let e : spans_by cells terms ≡ spans_by cells (take i terms) ++ span_by cells term ∷ spans_by cells (drop (i + 1) terms) =
      ap (spans_by cells) s ∙ spans_join (take i terms) (term ∷ drop (i + 1) terms) in
      let f : IsFirstOverrun (spans_by cells (take i terms) ++ span_by cells term ∷ spans_by cells (drop (i + 1) terms))
      (steps_in (spans_by cells (take i terms)) + step)
      = first_overrun (spans_by cells (take i terms)) (span_by cells term) (spans_by cells (drop (i + 1) terms)) step b.left o first in
      rw e (rw (b.is ∙ sym (steps_are (take i terms))) f)

-- each step of a term has an operation where each step of the schedule has one
pub term_left : {R : Type 0} (cells : Cells) (all : List (MatrixTerm R)) (i : ℕ) (term : MatrixTerm R) → slice_get all i ≡ Some term →
    HasOperations (spans_by cells all) → (step : ℕ) → ¬ Overruns (span_by cells term) step
term_left cells all i term h left =
    let e : spans_by cells all ≡ spans_by cells (take i all) ++ span_by cells term ∷ spans_by cells (drop (i + 1) all) =
    ap (spans_by cells) (split_at all i term h) ∙ spans_join cells (take i all) (term ∷ drop (i + 1) all) in
    each_has_operations (spans_by cells (take i all)) (span_by cells term) (spans_by cells (drop (i + 1) all)) (subst HasOperations e left)

-- the steps so far and those of the next term are among all
pub steps_left : {R : Type 0} (all : List (MatrixTerm R)) (i now : ℕ) (term : MatrixTerm R) → slice_get all i ≡ Some term →
    now + step_count (drop i all) ≡ step_count all → now + length term.steps ≤ step_count all
steps_left all i now term at s =
    let d : step_count (drop i all) ≡ length term.steps + step_count (drop (i + 1) all) = ap step_count (drop_next all i term at) in
    omega arith
