-- The latest of those met so far.
use Rattle.object_watch.specs.inner.Levels.{IsLatestOf}
use Rattle.object_watch.proofs.ends.latest_of.Given as goal

abbrev pub invariant-loop-place : goal.invariant-loop-place
invariant-loop-place g l = IsLatestOf l.place l.rest l.fn.most l.latest
