-- Shape by terms: a history of some terms, and the operations of one more.
use Rattle.std.proofs.Common.{◌≡◌, ℕ, ◌+◌, List, [], ◌∷◌, ◌++◌, length, refl, sym, subst, ◌∙◌, ap, arith, append-nil, append_assoc}
use Rattle.std.proofs.Common.{length-append}
use Rattle.history_core.specs.declared.history.Op.{Op}
use Rattle.history_core.specs.declared.history.Term.{Term}
use Rattle.history_core.specs.Schedules.{Span, IsPlayed, HasShapeFrom, HasShape}

module _ {R : Type 0} where
  -- the steps of these terms
  abbrev pub steps_in : List (Span R) → ℕ
  steps_in [] = 0
  steps_in (span ∷ spans) = length span.steps + steps_in spans

  -- the term of a history that begins at this place
  abbrev pub term_at : ℕ → Span R → Term
  term_at place span = record { first = place; limit = span.limit }

  pub one_term : (span : Span R) (ops : List (Op R)) → IsPlayed 0 span ops → HasShape (span ∷ []) (term_at 0 span ∷ []) ops
  one_term span ops played = (ops, [], [], sym (append-nil ops), refl, played, (refl, refl))

  pub one_term_more : (at place : ℕ) (spans : List (Span R)) (terms : List Term) (ops mine : List (Op R)) (span : Span R) →
      HasShapeFrom at place spans terms ops → IsPlayed (at + steps_in spans) span mine →
      HasShapeFrom at place (spans ++ span ∷ []) (terms ++ term_at (place + length ops) span ∷ []) (ops ++ mine)
  one_term_more at place [] terms ops mine span h played = (
    mine,
    [],
    [],
    ap (λ xs. xs ++ mine) h.1 ∙ sym (append-nil mine),
    ap (λ xs. xs ++ term_at (place + length ops) span ∷ []) h.0 ∙ ap (λ n. term_at n span ∷ []) (let e : length ops ≡ 0 = ap length h.1 in
        omega arith),
    subst (λ n. IsPlayed n span mine) (omega arith) played,
    (refl, refl),
  )
  one_term_more at place (s ∷ spans) terms ops mine span h played =
      let first : List (Op R) = h.0 in
      let others : List (Op R) = h.1 in
      let later : List Term = h.2 in
      let e : place + length ops ≡ (place + length first) + length others =
      let l = length-append first others in
      let o : length ops ≡ length (first ++ others) = ap length h.3 in
      omega arith in (
        first,
        others ++ mine,
        later ++ term_at ((place + length first) + length others) span ∷ [],
        ap (λ xs. xs ++ mine) h.3 ∙ append_assoc first others mine,
        ap (λ n. terms ++ term_at n span ∷ []) e ∙ ap (λ ts. ts ++ term_at ((place + length first) + length others) span ∷ []) h.4,
        h.5,
        one_term_more (at + length s.steps) (place + length first) spans later others mine span h.6
            (subst (λ n. IsPlayed n span mine) (omega arith) played),
      )

  -- one more term of a whole history
  pub shape_more : (spans : List (Span R)) (terms : List Term) (ops mine : List (Op R)) (span : Span R) → HasShape spans terms ops →
      IsPlayed (steps_in spans) span mine → HasShape (spans ++ span ∷ []) (terms ++ term_at (length ops) span ∷ []) (ops ++ mine)
  shape_more spans terms ops mine span h played =
      subst (λ n. HasShapeFrom 0 0 (spans ++ span ∷ []) (terms ++ term_at n span ∷ []) (ops ++ mine)) (omega arith)
      (one_term_more 0 0 spans terms ops mine span h (subst (λ n. IsPlayed n span mine) (omega arith) played))

  pub steps_in_more : (spans : List (Span R)) (span : Span R) → steps_in (spans ++ span ∷ []) ≡ steps_in spans + length span.steps
  steps_in_more [] span = omega arith
  steps_in_more (s ∷ spans) span = omega (arith, steps_in_more spans span)
