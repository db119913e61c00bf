-- Each value is a number more, or the end.
use Rattle.std.proofs.Common.{◌∙◌, sym}
use Rattle.record_words.proofs.NumberLemmas.{no_more, one_more}
use Rattle.record_words.proofs.words.numbers_of.Goals as goal

pub returns-in-None : goal.returns-in-None
returns-in-None c = no_more c.args.items.now c.loop-item.item-index c.item-item.result c.loop-item.numbers.items _
    c.loop-item-test.true c.item-item.is (sym c.in-None.is ∙ c.as_u64.ensures) c.loop-item.invariant

pub loop-item-preserved : goal.loop-item-preserved
loop-item-preserved c = one_more c.args.items.now c.loop-item.item-index c.item-item.result c.in-Some.number
    c.loop-item.numbers.items c.push.new.self.items _ c.loop-item-test.true c.item-item.is
    (sym c.in-Some.is ∙ c.as_u64.ensures) c.loop-item.invariant c.in_ok-push-in-Some.ensures.items
