-- Each turn prints one piece more.
use Rattle.reason_sentences.proofs.CountLemmas.{one_more}
use Rattle.small_log.specs.Small.{next_text}
use Rattle.small_log.proofs.small.push_rest.Goals as goal

pub loop-op-preserved : goal.loop-op-preserved
loop-op-preserved c =
    one_more (next_text c.args.ops.now) c.args.text.now.items c.loop-op.text.items
    _ c.args.rest.now c.loop-op.op-index _ c.loop-op-test.true
    c.loop-op.invariant c.in_ok-push_next.ensures
