-- `before` counts the steps of the terms passed, and each of these steps had an operation left.
use Rattle.matrix_core.proofs.terms.Overruns.{IsBefore}
use Rattle.matrix_core.proofs.overruns.first_overrun.Given as goal

abbrev pub invariant-loop-term : goal.invariant-loop-term
invariant-loop-term g l = IsBefore l.cells l.terms l.term-index l.before
