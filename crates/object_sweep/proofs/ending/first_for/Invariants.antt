-- The one so far is placed for it.
use Rattle.object_sweep.specs.inner.Steps.{StandsInFor}
use Rattle.object_sweep.proofs.ending.first_for.Given as goal

abbrev pub invariant-loop-other : goal.invariant-loop-other
invariant-loop-other g l = StandsInFor g.O.Object.after l.log l.under_way l.placed l.first l.place
