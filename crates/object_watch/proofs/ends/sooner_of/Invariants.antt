-- The soonest of those met so far.
use Rattle.object_watch.specs.inner.Levels.{IsSoonerOf}
use Rattle.object_watch.proofs.ends.sooner_of.Given as goal

abbrev pub invariant-loop-place : goal.invariant-loop-place
invariant-loop-place g l = IsSoonerOf l.last l.place l.rest l.fn.least l.sooner
