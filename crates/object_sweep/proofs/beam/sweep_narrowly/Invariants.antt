-- What is held here is behind the first events, and so is what each mark holds.
use Rattle.object_sweep.specs.inner.Beams.{AreMarksBehind, IsMarkBehind}
use Rattle.object_sweep.specs.inner.Events.{events_at}
use Rattle.object_sweep.proofs.beam.sweep_narrowly.Given as goal

abbrev pub invariant-loop-at : goal.invariant-loop-at
invariant-loop-at g l = IsMarkBehind g.O.Object.after l.fn.opening l.log (events_at l.log l.turns) l.at
    × AreMarksBehind g.O.Object.after l.fn.opening l.log (events_at l.log l.turns) l.marks.items

abbrev pub decreases-loop-at : goal.decreases-loop-at
decreases-loop-at g l = l.left
