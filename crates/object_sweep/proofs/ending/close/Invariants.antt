-- Those before the next are explored.
use Rattle.std.proofs.Common.{◌-◌}
use Rattle.object_sweep.specs.inner.Steps.{sure_at, AreExplored}
use Rattle.object_sweep.proofs.ending.close.Given as goal

abbrev pub invariant-loop-next : goal.invariant-loop-next
invariant-loop-next g l = AreExplored (sure_at l.log) g.O.Object.after l.log l.under_way l.ending l.next
    l.initial.sets.waiting.items l.initial.sets.kept.items l.sets.waiting.items l.sets.kept.items

abbrev pub decreases-loop-next : goal.decreases-loop-next
decreases-loop-next g l = l.budget - l.next
