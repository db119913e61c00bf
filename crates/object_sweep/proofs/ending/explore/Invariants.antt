-- Those met so far are tried, or need not be.
use Rattle.object_sweep.specs.inner.Steps.{sure_at, IsExplored}
use Rattle.object_sweep.proofs.Adding.{AreHeldFor}
use Rattle.object_sweep.proofs.ending.explore.Given as goal

abbrev pub invariant-loop-place : goal.invariant-loop-place
invariant-loop-place g l = IsExplored (sure_at l.log) g.O.Object.after l.log l.under_way l.ending l.from.state l.from.placed.items
    l.place-index
    l.fn.sets.waiting.items l.fn.sets.kept.items l.sets.waiting.items l.sets.kept.items
    × AreHeldFor (sure_at l.log) g.O.Object.after l.log l.under_way l.ending l.from.state l.from.placed.items l.tried.items
    l.sets.waiting.items l.sets.kept.items
