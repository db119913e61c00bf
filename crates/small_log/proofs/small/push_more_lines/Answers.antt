-- Each turn prints one piece more.
use Rattle.std.specs.Prelude.{codes}
use Rattle.reason_sentences.proofs.CountLemmas.{one_more}
use Rattle.reason_sentences.specs.Numbers.{number_text}
use Rattle.small_log.proofs.small.push_more_lines.Goals as goal

pub loop-line-preserved : goal.loop-line-preserved
loop-line-preserved c =
    one_more (number_text (codes ",")) c.args.text.now.items c.loop-line.text.items
    _ c.args.lines.now c.loop-line.line-index _ c.loop-line-test.true
    c.loop-line.invariant c.in_ok-push_u64.ensures
