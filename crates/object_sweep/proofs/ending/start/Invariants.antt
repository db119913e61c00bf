-- Those met so far are sorted.
use Rattle.object_sweep.specs.inner.Steps.{AreStarted, sure_at}
use Rattle.object_sweep.proofs.ending.start.Given as goal

abbrev pub invariant-loop-one : goal.invariant-loop-one
invariant-loop-one g l =
    AreStarted (sure_at l.log) g.O.Object.after l.log l.ending l.one-index l.configurations l.sets.waiting.items l.sets.kept.items
