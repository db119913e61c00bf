-- Those met so far are within the first of the others.
use Rattle.std.proofs.Common.{◌≤◌, length, take}
use Rattle.object_watch.specs.inner.Levels.{AreWithSpare}
use Rattle.object_watch.proofs.level.is_within.Given as goal

abbrev pub invariant-loop-i : goal.invariant-loop-i
invariant-loop-i g l = (l.met ≤ length l.rest) × AreWithSpare g.O.Object.after l.end (take l.met l.rest) (take l.i l.others)
