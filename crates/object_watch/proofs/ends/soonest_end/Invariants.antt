-- The soonest of those met so far.
use Rattle.object_watch.specs.inner.Levels.{IsSoonestBelow}
use Rattle.object_watch.proofs.ends.soonest_end.Given as goal

abbrev pub invariant-loop-i : goal.invariant-loop-i
invariant-loop-i g l = IsSoonestBelow l.last l.i l.held l.end
