-- Nothing has to be known of those met so far.
use Rattle.object_sweep.proofs.ending.is_stood_for.Given as goal

abbrev pub invariant-loop-one : goal.invariant-loop-one
invariant-loop-one g l = Unit {0}
