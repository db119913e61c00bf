-- One more operation.
use Rattle.picture_answers.specs.Moments.{ranked_op}
use Rattle.picture_answers.proofs.MomentLemmas.{mapped_more}
use Rattle.picture_answers.proofs.moments.ranked_ops.Goals as goal

pub loop-op-preserved : goal.loop-op-preserved
loop-op-preserved c =
    mapped_more (ranked_op c.args.moments.now) c.loop-op.ranked.items _ c.args.ops.now c.loop-op.op-index _ c.loop-op-test.true
    c.loop-op.invariant c.in_ok-push_ranked.ensures
