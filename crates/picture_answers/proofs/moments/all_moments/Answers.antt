-- Those of one more operation.
use Rattle.picture_answers.specs.Moments.{op_moments}
use Rattle.picture_answers.proofs.MomentLemmas.{gathered_more}
use Rattle.picture_answers.proofs.moments.all_moments.Goals as goal

pub loop-op-preserved : goal.loop-op-preserved
loop-op-preserved c =
    gathered_more op_moments c.loop-op.moments.items _ c.args.ops.now c.loop-op.op-index _ c.loop-op-test.true c.loop-op.invariant
    c.in_ok-push_moments.ensures
