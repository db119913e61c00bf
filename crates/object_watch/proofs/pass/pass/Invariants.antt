-- Those before the next are visited.
use Rattle.std.proofs.Common.{◌-◌}
use Rattle.object_watch.proofs.Passing.{IsPassing}
use Rattle.object_watch.proofs.pass.pass.Given as goal

abbrev pub invariant-loop-next : goal.invariant-loop-next
invariant-loop-next g l = IsPassing g.O.Object.after l.end l.fn.held.items l.next l.seen.items l.kept.items

abbrev pub decreases-loop-next : goal.decreases-loop-next
decreases-loop-next g l = l.budget - l.next
