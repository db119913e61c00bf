-- The sum is that of the steps of the terms passed, and each of these is a term that can be played.
use Rattle.std.proofs.Common.{◌≡◌, ◌<◌, ℕ, take}
use Rattle.std.specs.Prelude.{slice_get, Some}
use Rattle.history_core.specs.declared.band.Band.{Band}
use Rattle.matrix_core.specs.declared.schedule.MatrixTerm.{MatrixTerm}
use Rattle.matrix_core.specs.Runs.{IsTerm, step_count}
use Rattle.test_matrices.proofs.rows.can_play.Given as goal

abbrev pub invariant-loop-term : goal.invariant-loop-term
invariant-loop-term l = record {
  steps : l.steps ≡ step_count (take l.term-index l.terms);
  each : (k : ℕ) (term : MatrixTerm Band) → k < l.term-index → slice_get l.terms k ≡ Some term → IsTerm term;
}
