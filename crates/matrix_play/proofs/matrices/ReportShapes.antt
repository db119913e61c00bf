-- The shape of a report: the operations of each term's run are those that its steps have begun.
use Rattle.std.proofs.Common.{◌≡◌, ℕ, suc, ◌+◌, List, [], ◌∷◌, length, refl}
use Rattle.std.specs.Prelude.{slice_get, Some}
use Rattle.history_core.specs.Schedules.{Overruns, HasOperations, HasShape, HasShapeFrom}
use Rattle.matrix_core.specs.declared.schedule.MatrixSchedule.{MatrixSchedule}
use Rattle.matrix_core.specs.declared.schedule.MatrixReport.{MatrixReport}
use Rattle.matrix_play.specs.inner.PlayedReports.{IsReport}
use Rattle.matrix_core.proofs.terms.Overruns.{term_left}
use Rattle.matrix_core.specs.declared.schedule.MatrixTerm.{MatrixTerm}
use Rattle.matrix_play.specs.inner.MatrixPlays.{MatrixPlaying, matrix_play_of, matrix_plays_of, ops_of, terms_of, next_opening}
use Rattle.matrix_core.specs.Runs.{CanPlay, IsTerm, spans_of, span_of}
use Rattle.matrix_core.specs.declared.overruns.Cells.TheVariants.{Atomic}
use Rattle.matrix_play.proofs.matrices.Plays.{IsPlaySoFar, term_played}

module _ {R : Type 0} where
  -- each term can be played, and each of its steps has an operation
  pub record IsPlayable (terms : List (MatrixTerm R)) : Type 0 where
    pub each : (k : ℕ) (term : MatrixTerm R) → slice_get terms k ≡ Some term → IsTerm term
    pub left : (k : ℕ) (term : MatrixTerm R) → slice_get terms k ≡ Some term → (step : ℕ) → ¬ Overruns (span_of term) step

  pub later_terms : (term : MatrixTerm R) (terms : List (MatrixTerm R)) → IsPlayable (term ∷ terms) → IsPlayable terms
  later_terms term terms p = record { each = λ k t h. p.each (suc k) t h; left = λ k t h. p.left (suc k) t h }

  -- the run of the first term
  pub first_run : (at : ℕ) (opening : R) (term : MatrixTerm R) (terms : List (MatrixTerm R)) → IsPlayable (term ∷ terms) →
      IsPlaySoFar at (span_of term) term.steps (matrix_play_of at opening term)
  first_run at opening term terms p = term_played at opening term (p.each 0 term refl) (p.left 0 term refl)

  pub run_shape : (at place : ℕ) (opening : R) (terms : List (MatrixTerm R)) → IsPlayable terms
      → HasShapeFrom at place (spans_of terms) (terms_of place terms (matrix_plays_of at opening terms))
      (ops_of (matrix_plays_of at opening terms))
  run_shape at place opening [] p = (refl, refl)
  run_shape at place opening (term ∷ terms) p =
      let run : MatrixPlaying R = matrix_play_of at opening term in
      let later : List (MatrixPlaying R) = matrix_plays_of (at + length term.steps) (next_opening opening run) terms in (
        run.ops,
        ops_of later,
        terms_of (place + length run.ops) terms later,
        refl,
        refl,
        (first_run at opening term terms p).played.played,
        run_shape (at + length term.steps) (place + length run.ops) (next_opening opening run) terms (later_terms term terms p),
      )

  pub playable : (terms : List (MatrixTerm R)) → CanPlay terms → HasOperations (spans_of terms) → IsPlayable terms
  playable terms can left = record { each = can.each; left = λ k t h. term_left Atomic terms k t h left }

  pub report_shape : (schedule : MatrixSchedule R) (report : MatrixReport R) → CanPlay schedule.terms →
      HasOperations (spans_of schedule.terms) → IsReport schedule report
      → HasShape (spans_of schedule.terms) report.history.terms report.history.ops
  report_shape schedule report can left is =
      rw (is.terms, is.ops) (run_shape 0 0 schedule.opening schedule.terms (playable schedule.terms can left))
