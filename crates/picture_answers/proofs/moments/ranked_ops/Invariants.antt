-- The operations met so far.
use Rattle.std.proofs.Common.{◌≡◌, map, take}
use Rattle.picture_answers.specs.Moments.{ranked_op}
use Rattle.picture_answers.proofs.moments.ranked_ops.Given as goal

abbrev pub invariant-loop-op : goal.invariant-loop-op
invariant-loop-op l = l.ranked.items ≡ map (ranked_op l.moments) (take l.op-index l.ops)
