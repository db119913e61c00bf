-- A shape of one term is what was played of it; the other consequences are parts of a report, or of an answer.
use Rattle.std.proofs.Common.{◌≡◌, ◌≢◌, ℕ, ◌+◌, ◌<◌, ◌≤◌, List, [], ◌∷◌, ◌++◌, slice_get, Some}
use Rattle.std.proofs.Common.{refl, sym, ◌∙◌, ap, subst, append-nil, arith}
use Rattle.history_core.specs.declared.history.Op.{Op}
use Rattle.history_core.specs.declared.history.Term.{Term}
use Rattle.history_core.specs.Orders.{IsAtomicOrder, RefusesLawfully}
use Rattle.history_core.specs.Schedules.{HasShape, HasShapeFrom, IsPlayed, Span}
use Rattle.four_slot_core.specs.Play.{cell_span}
use Rattle.matrix_core.specs.Runs.{board_spans, spans_of}
use Rattle.theorem_uses.specs.Reports.{BoardReportsShow, CellReportsShow, HasItsOperations, IsAtomicHistory, KeepsApart, MatrixReportsShow}
use Rattle.history_core.specs.Reasons.{IsReason}
use Rattle.history_core.specs.Searches.{IsOneTerm}
use Rattle.theorem_uses.specs.Reports.{ReadsNoOlderWrite, SearchesRightly}

abbrev first_limit : List Term → ℕ
first_limit [] = 0
first_limit (t ∷ ts) = t.limit

-- the limit of an answer is that of its term
term_limit : (terms : List Term) (limit : ℕ) → IsOneTerm limit terms → first_limit terms ≡ limit
term_limit terms limit e = ap first_limit e

module _ {R : Type 0} where
  played : (span : Span R) (terms : List Term) (ops : List (Op R)) → HasShape (span ∷ []) terms ops → IsPlayed 0 span ops
  played span terms ops h =
      let rest : ops ≡ h.0 = h.3 ∙ ap (λ z. h.0 ++ z) h.6.1 ∙ append-nil h.0 in
      subst (λ z. IsPlayed 0 span z) (sym rest) h.5

  operations : (span : Span R) (terms : List Term) (ops : List (Op R)) → HasShape (span ∷ []) terms ops → HasItsOperations R span terms ops
  operations span terms ops h =
      let p = played span terms ops h in
      record {
        there = p.all;
        planned_so = λ q op at. let k = p.each q op at in (k.0, k.1.begins, k.1.finishes, k.1.follows);
        rising = p.rising;
        limited = h.4 ∙ ap (λ z. record { first = 0; limit = span.limit } ∷ z) h.6.0;
      }

  history : (opening : R) (span : Span R) (terms : List Term) (ops : List (Op R)) (order : List ℕ) → HasShape (span ∷ []) terms ops →
      IsAtomicOrder (λ x y. x ≡ y) opening ops order → RefusesLawfully terms ops order → IsAtomicHistory R opening span terms ops order
  history opening span terms ops order shape atomic refuses =
      record { operations = operations span terms ops shape; atomic = atomic; refuses = refuses }

  pub cells_show : CellReportsShow R
  cells_show s r h =
      (history s.opening (cell_span s) r.history.terms r.history.ops r.order h.means.shape h.means.atomic h.means.refuses, h.means.opening)

  pub matrices_show : MatrixReportsShow R
  matrices_show s r term one h = (
    history s.opening _ r.history.terms r.history.ops r.order
        (subst (λ z. HasShape (spans_of z) r.history.terms r.history.ops) one h.shape) h.atomic h.refusals,
    h.opening,
  )

  pub boards_show : BoardReportsShow R
  boards_show s r term one h = (
    history s.opening _ r.history.terms r.history.ops r.order
        (subst (λ z. HasShape (board_spans z) r.history.terms r.history.ops) one h.shape) h.atomic h.refusals,
    h.opening,
  )

  pub no_older : ReadsNoOlderWrite R
  no_older s r k m p op h at reads begins ends finished before =
      let f = h.comes_of.fresh m finished in
      let late : k < f.0 = f.1.read_of.late k before in
      (f.0, (let l : k + 1 ≤ f.0 = omega arith in l), h.comes_of.answers p m f.0 op at reads begins ends f.1.source)

  pub apart : KeepsApart R
  apart s r k m h same wrote read = h.comes_of.clear k m same wrote read

  pub searches : SearchesRightly R
  searches opening limit ops order = (
    λ h. (h.answer.0, h.answer.1),
    λ reason h.
        let same : limit ≡ h.limit = term_limit (record { first = 0; limit = limit } ∷ []) h.limit h.one_term in (
          λ atomic refuses. h.answer.none order (atomic, refuses),
          subst (λ l. IsReason (λ x y. x ≡ y) opening l ops reason) (sym same) h.answer.is,
          λ other is less.
              let least = h.answer.first other (subst (λ l. IsReason (λ x y. x ≡ y) opening l ops other) same is) in
              omega (arith, least, less),
        ),
  )
