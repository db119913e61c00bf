-- The counts are those of the steps passed, and each of these had an operation left.
use Rattle.std.proofs.Common.{ℕ, ◌<◌}
use Rattle.history_core.specs.Schedules.{Overruns}
use Rattle.matrix_core.specs.Runs.{span_by}
use Rattle.matrix_core.proofs.terms.Overruns.{IsCount}
use Rattle.matrix_core.proofs.overruns.overrun_of.Given as goal

abbrev pub invariant-loop-step : goal.invariant-loop-step
invariant-loop-step g l = record {
  count : IsCount l.term.steps l.step l.made;
  before : (q : ℕ) → q < l.step → ¬ Overruns (span_by l.fn.cells l.term) q;
}
