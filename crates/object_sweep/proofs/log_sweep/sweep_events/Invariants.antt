-- What is held behind the events met so far, where nothing was left out.
use Rattle.std.proofs.Common.{◌-◌, ◌≤◌, length, take, true}
use Rattle.object_sweep.specs.inner.Events.{events_at, IsFrontBehind}
use Rattle.object_sweep.proofs.log_sweep.sweep_events.Given as goal

abbrev pub invariant-loop-done : goal.invariant-loop-done
invariant-loop-done g l = (l.done ≤ length (events_at l.log l.turns)) × IsFrontBehind true g.O.Object.after l.fn.opening l.log
    (take l.done (events_at l.log l.turns))
    l.front.under_way.items l.front.configurations.items

abbrev pub decreases-loop-done : goal.decreases-loop-done
decreases-loop-done g l = length l.turns - l.done
