-- Those that are left were there.
use Rattle.std.proofs.Common.{length}
use Rattle.object_sweep.specs.inner.Beams.{AreLeftOf}
use Rattle.object_sweep.proofs.beam.last_whole.Given as goal

abbrev pub invariant-loop-mark : goal.invariant-loop-mark
invariant-loop-mark g l = AreLeftOf l.initial.marks.items l.marks.items

abbrev pub decreases-loop-mark : goal.decreases-loop-mark
decreases-loop-mark g l = length l.marks.items
