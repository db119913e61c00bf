-- The operations at the places met so far.
use Rattle.object_window.proofs.Found.{AreSeenUpTo}
use Rattle.object_window.proofs.window.seen_at.Given as goal

abbrev pub invariant-loop-i : goal.invariant-loop-i
invariant-loop-i l = AreSeenUpTo l.i l.first l.last l.places l.log l.little.items
