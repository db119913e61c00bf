-- Those met so far are copied.
use Rattle.object_sweep.specs.inner.Beams.{AreCopies}
use Rattle.object_sweep.proofs.front.copies.Given as goal

abbrev pub invariant-loop-place : goal.invariant-loop-place
invariant-loop-place g l = AreCopies l.place l.held l.found.items
