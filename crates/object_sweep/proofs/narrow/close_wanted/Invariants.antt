-- What was added so far is reached.
use Rattle.std.proofs.Common.{◌-◌}
use Rattle.object_sweep.specs.inner.Steps.{KeepsSound}
use Rattle.object_sweep.proofs.narrow.close_wanted.Given as goal

abbrev pub invariant-loop-next : goal.invariant-loop-next
invariant-loop-next g l = KeepsSound g.O.Object.after l.log l.under_way l.ending l.initial.sets.waiting.items
    l.initial.sets.kept.items l.sets.waiting.items l.sets.kept.items

abbrev pub decreases-loop-next : goal.decreases-loop-next
decreases-loop-next g l = l.most - l.next
