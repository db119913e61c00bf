-- What is held of each log of which it was held.
use Rattle.std.proofs.Common.{ℕ, ◌+◌, ◌-◌, ◌≤◌, List}
use Rattle.object_core.specs.declared.operation.Operation.{Operation}
use Rattle.object_watch.specs.Remainders.{AreAhead, AreLedTo}
use Rattle.object_watch.specs.Watches.{IsHeldOf}
use Rattle.object_watch.specs.inner.Levels.{soonest_of}
use Rattle.object_watch.proofs.Watching.{Rises}
use Rattle.object_watch.proofs.pass.pass_ends.Given as goal

abbrev pub invariant-loop-end : goal.invariant-loop-end
invariant-loop-end g l = AreAhead 0 l.held.items × AreLedTo g.O.Object.after l.fn.held.items l.held.items
    × ((opening : g.row.O.Denot) (log : List (Operation g.row.O-What.Denot)) (moment : ℕ) → moment ≤ l.last + 1 →
    IsHeldOf g.O.Object.after opening log moment l.fn.held.items → Rises g.O.Object.after opening log moment l.last l.held.items)

abbrev pub decreases-loop-end : goal.decreases-loop-end
decreases-loop-end g l = l.last + 1 - soonest_of l.last l.held.items
