-- What is held runs forwards.
use Rattle.object_watch.specs.Remainders.{AreAhead}
use Rattle.test_objects.proofs.watch.finished.Given as goal

abbrev pub invariant-loop-i : goal.invariant-loop-i
invariant-loop-i l = AreAhead 0 l.watch.held.items
