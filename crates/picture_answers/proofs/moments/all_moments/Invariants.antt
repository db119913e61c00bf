-- The moments of the operations met so far.
use Rattle.std.proofs.Common.{◌≡◌, take}
use Rattle.picture_answers.specs.Moments.{all_moments}
use Rattle.picture_answers.proofs.moments.all_moments.Given as goal

abbrev pub invariant-loop-op : goal.invariant-loop-op
invariant-loop-op l = l.moments.items ≡ all_moments (take l.op-index l.ops)
