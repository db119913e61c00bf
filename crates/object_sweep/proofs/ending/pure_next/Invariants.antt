-- Nothing has to be known of those met so far.
use Rattle.object_sweep.proofs.ending.pure_next.Given as goal

abbrev pub invariant-loop-place : goal.invariant-loop-place
invariant-loop-place g l = Unit {0}
