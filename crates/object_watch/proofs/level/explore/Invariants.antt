-- It may be left out, and those met so far are tried.
use Rattle.object_watch.specs.inner.Levels.{AreAllTried, IsGrownBy}
use Rattle.object_watch.proofs.level.explore.Given as goal

abbrev pub invariant-loop-other : goal.invariant-loop-other
invariant-loop-other g l = IsGrownBy g.O.Object.after l.end l.from.state l.from.rest.items l.fn.seen.items l.seen.items
    × AreAllTried g.O.Object.after l.end l.from.state l.from.rest.items l.place l.other l.seen.items
