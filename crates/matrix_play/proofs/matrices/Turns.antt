-- The terms of a report in turn: each opens with the latest record of the one before, which is the greatest that a process
-- held; so the whole order is atomic, and refuses lawfully.
use Rattle.std.proofs.Common.{◌≡◌, ℕ, ◌+◌, List, [], ◌∷◌, ◌++◌, length, map, refl, sym, ◌∙◌, ap, subst, arith}
use Rattle.history_core.specs.declared.history.Op.{Op}
use Rattle.history_core.specs.declared.history.Term.{Term}
use Rattle.history_core.specs.Joined.{order_from, terms_from, ops_of as part_ops}
use Rattle.history_core.specs.Orders.{IsAtomicOrder, RefusesLawfully}
use Rattle.history_core.specs.Schedules.{HasOperations}
use Rattle.history_core.proofs.JoinedParts.{atomic_parts, lawful_parts}
use Rattle.history_core.proofs.JoinedSpans.{IsPlayedInTurn, played_in_turn}
use Rattle.matrix_core.specs.declared.schedule.MatrixTerm.{MatrixTerm}
use Rattle.matrix_core.specs.declared.schedule.MatrixSchedule.{MatrixSchedule}
use Rattle.matrix_core.specs.declared.schedule.MatrixReport.{MatrixReport}
use Rattle.matrix_core.specs.ByAccesses.{IsCut}
use Rattle.matrix_core.specs.Lines.{first_record}
use Rattle.matrix_play.specs.MatrixReports.{AreMatrixParts, IsMatrixPart, IsMatrixReport, MatrixPart, parts_of, matrix_stamps}
use Rattle.matrix_play.specs.MatrixRuns.{IsMatrixRun}
use Rattle.matrix_play.specs.inner.PlayedReports.{HasOrders, IsReport}
use Rattle.matrix_play.specs.inner.MatrixPlays.{MatrixPlaying, next_opening, ops_of, matrix_play_of, matrix_plays_of}
use Rattle.matrix_core.specs.inner.Operations.{greatest_own}
use Rattle.matrix_play.specs.inner.MatrixPlays.{stamps_of, terms_of}
use Rattle.matrix_core.specs.Runs.{CanPlay, IsTerm, span_of, spans_of}
use Rattle.matrix_core.proofs.choices.ByAccesses.{chosen_fully}
use Rattle.matrix_core.proofs.choices.Greatest.{greatest_chosen}
use Rattle.matrix_play.proofs.matrices.Folds.{chose_in, holds, is_run}
use Rattle.matrix_play.proofs.matrices.Plays.{IsPlaySoFar, term_span}
use Rattle.matrix_play.proofs.matrices.ReportShapes.{IsPlayable, first_run, later_terms, playable, report_shape}
use Rattle.matrix_core.proofs.orders.Terms.{term_atomic, term_lawful, term_last}

module _ {R : Type 0} where
  term_cut : (term : MatrixTerm R) → IsTerm term → IsCut 1 (span_of term)
  term_cut term t = record { at_least = t.at_least; at_most = t.at_most; some = omega arith; accesses = omega arith; steps = t.steps }

  -- the runs of the terms as parts
  pub record AreParts (at place : ℕ) (opening : R) (terms : List (MatrixTerm R)) (order : List ℕ) : Type 0 where
    pub parts : List (MatrixPart R)
    pub each : AreMatrixParts at opening terms parts
    pub same_ops : ops_of (matrix_plays_of at opening terms) ≡ part_ops (parts_of parts)
    pub same_stamps : stamps_of (matrix_plays_of at opening terms) ≡ matrix_stamps parts
    pub same_order : order ≡ order_from place (parts_of parts)
    pub same_terms : terms_of place terms (matrix_plays_of at opening terms) ≡ terms_from place (parts_of parts)

  pub in_turn : (at place : ℕ) (opening : R) (terms : List (MatrixTerm R)) (order : List ℕ) → IsPlayable terms →
      HasOrders place (matrix_plays_of at opening terms) order → AreParts at place opening terms order
  in_turn at place opening [] order p h = record {
    parts = [];
    each = tt;
    same_ops = refl;
    same_stamps = refl;
    same_order = h;
    same_terms = refl;
  }
  in_turn at place opening (term ∷ terms) order p h =
      let run : MatrixPlaying R = matrix_play_of at opening term in
      let mine : List ℕ = h.0 in
      let g : IsPlaySoFar at (span_of term) term.steps run = first_run at opening term terms p in
      let t : IsTerm term = p.each 0 term refl in
      let sp = term_span at opening term t in
      let is : IsMatrixRun at (span_of term) opening run.ops run.stamps (chose_in at (span_of term) opening) =
      is_run at (span_of term) opening sp t.steps (p.left 0 term refl) in
      let full = chosen_fully at 1 (span_of term) opening run.ops run.stamps (chose_in at (span_of term) opening) (term_cut term t)
      g.played.played is.by in
      let greatest = greatest_chosen at 1 (span_of term) opening run.ops run.stamps (chose_in at (span_of term) opening) full.0 full.1
      full.2 run.matrix.lines g.processes
      (holds at (span_of term) opening sp t.steps (p.left 0 term refl)) in
      let next : R = next_opening opening run in
      let rest : AreParts (at + length term.steps) (place + length run.ops) next terms h.1 =
      in_turn (at + length term.steps) (place + length run.ops) next terms h.1 (later_terms term terms p) h.4 in
      let part : MatrixPart R = record { limit = term.limit; ops = run.ops; stamps = run.stamps; order = mine } in
      let came : IsMatrixPart at opening term part = record {
        limit = refl;
        played = g.played.played;
        chosen = chose_in at (span_of term) opening;
        run = is;
        choices = full.0;
        chose = full.1;
        order = h.3;
      } in
      record {
        parts = part ∷ rest.parts;
        each = (
          came,
          (
            next,
            term_last opening term.limit run.ops run.stamps full.0 mine full.1 h.3 g.stamps g.played.played.rising
                (greatest_own (first_record opening) run.matrix.lines).stamp
                (greatest_own (first_record opening) run.matrix.lines).item greatest,
            rest.each,
          ),
        );
        same_ops = ap (λ z. run.ops ++ z) rest.same_ops;
        same_stamps = ap (λ z. run.stamps ++ z) rest.same_stamps;
        same_order = h.2 ∙ ap (λ z. map (λ p. place + p) mine ++ z) rest.same_order;
        same_terms = ap (λ z. let t : Term = record { first = place; limit = term.limit } in t ∷ z) rest.same_terms;
      }

  -- each part by itself is atomic and refuses lawfully
  parts_in_turn : (at : ℕ) (opening : R) (terms : List (MatrixTerm R)) (parts : List (MatrixPart R)) →
      AreMatrixParts at opening terms parts → (last : R) × IsPlayedInTurn (λ x y. x ≡ y) at opening (spans_of terms) (parts_of parts) last
  parts_in_turn at opening [] [] h = (opening, refl)
  parts_in_turn at opening [] (part ∷ parts) h = absurd h
  parts_in_turn at opening (term ∷ terms) [] h = absurd h
  parts_in_turn at opening (term ∷ terms) (part ∷ parts) h =
      let came : IsMatrixPart at opening term part = h.0 in
      let rest = parts_in_turn (at + length term.steps) h.1.0 terms parts h.1.2 in (
        rest.0,
        (
          h.1.0,
          came.limit,
          came.played,
          term_atomic opening term.limit part.ops part.stamps came.choices part.order came.chose came.order
              came.run.by.long came.played.rising,
          subst (λ l. RefusesLawfully (record { first = 0; limit = l } ∷ []) part.ops part.order) (sym came.limit)
              (term_lawful opening term.limit part.ops part.stamps came.choices part.order came.chose came.order
              came.run.by.long came.played.rising),
          h.1.1,
          rest.1,
        ),
      )

  atomic_as : (opening : R) (ops same : List (Op R)) (order those : List ℕ) → ops ≡ same → order ≡ those →
      IsAtomicOrder (λ x y. x ≡ y) opening same those → IsAtomicOrder (λ x y. x ≡ y) opening ops order
  atomic_as opening ops same order those e f h = rw (e, f) h

  lawful_as : (terms here : List Term) (ops same : List (Op R)) (order those : List ℕ) → terms ≡ here → ops ≡ same → order ≡ those →
      RefusesLawfully here same those → RefusesLawfully terms ops order
  lawful_as terms here ops same order those d e f h = rw (d, e, f) h

  pub matrix_report : (schedule : MatrixSchedule R) (report : MatrixReport R) → CanPlay schedule.terms →
      HasOperations (spans_of schedule.terms) → IsReport schedule report → IsMatrixReport schedule report
  matrix_report schedule report can left is =
      let a : AreParts 0 0 schedule.opening schedule.terms report.order =
      in_turn 0 0 schedule.opening schedule.terms report.order (playable schedule.terms can left) is.order in
      let turn = parts_in_turn 0 schedule.opening schedule.terms a.parts a.each in
      let last : R = turn.0 in
      let both = played_in_turn (λ x y. x ≡ y) 0 schedule.opening last (spans_of schedule.terms) (parts_of a.parts) turn.1 in
      record {
        opening = is.opening;
        shape = report_shape schedule report can left is;
        atomic = atomic_as schedule.opening report.history.ops (part_ops (parts_of a.parts)) report.order (order_from 0 (parts_of a.parts))
            (is.ops ∙ a.same_ops) a.same_order
            (atomic_parts (λ x y. x ≡ y) schedule.opening last (parts_of a.parts) both);
        refusals = lawful_as report.history.terms (terms_from 0 (parts_of a.parts)) report.history.ops (part_ops (parts_of a.parts))
            report.order (order_from 0 (parts_of a.parts)) (is.terms ∙ a.same_terms) (is.ops ∙ a.same_ops) a.same_order
            (lawful_parts (λ x y. x ≡ y) schedule.opening last (parts_of a.parts) both);
        run = record {
          parts = a.parts;
          each = a.each;
          terms = is.terms ∙ a.same_terms;
          ops = is.ops ∙ a.same_ops;
          stamps = is.stamps ∙ a.same_stamps;
          order = a.same_order;
        };
      }
