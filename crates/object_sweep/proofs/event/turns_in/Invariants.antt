-- The events of those met so far.
use Rattle.object_sweep.specs.inner.Events.{HaveEvents, events_at}
use Rattle.object_sweep.proofs.event.turns_in.Given as goal

abbrev pub invariant-loop-place : goal.invariant-loop-place
invariant-loop-place g l = HaveEvents l.log l.place (events_at l.log l.turns.items)
