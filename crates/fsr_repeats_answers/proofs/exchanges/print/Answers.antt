-- The text is that of a log that its limit makes unlawful.
use Rattle.text_lines.specs.Words.{text_in}
use Rattle.fsr_repeats_answers.proofs.ExchangesLemmas.{limited_told}
use Rattle.fsr_repeats_answers.proofs.exchanges.print.Goals as goal

pub returns-in_ok-text-in-Limited : goal.returns-in_ok-text-in-Limited
returns-in_ok-text-in-Limited c =
    limited_told (text_in c.args.packed.now) c.args.log.now c.args.judgement.now _ _ c.in_ok-text-in-Limited.text.items
    c.unlawful-in-Limited.result c.in-Limited.is c.in_ok-text-in-Limited.ensures c.unlawful-in-Limited.ensures
