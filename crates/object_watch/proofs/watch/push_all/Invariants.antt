-- Those met so far have it.
use Rattle.object_watch.specs.inner.Levels.{AreTaken}
use Rattle.object_watch.proofs.watch.push_all.Given as goal

abbrev pub invariant-loop-i : goal.invariant-loop-i
invariant-loop-i g l = AreTaken l.i l.op l.fn.held.items l.held.items
