-- The latest of those met so far.
use Rattle.object_watch.specs.inner.Levels.{IsLatest}
use Rattle.object_watch.proofs.ends.latest_end.Given as goal

abbrev pub invariant-loop-i : goal.invariant-loop-i
invariant-loop-i g l = IsLatest l.i l.held l.fn.moment l.latest
