-- What was read is the log, or its fault, and what was printed is what is known of it.
use Rattle.std.proofs.Common.{inr}
use Rattle.text_lines.specs.Words.{text_in}
use Rattle.fsr_repeats_answers.proofs.ExchangesLemmas.{judged}
use Rattle.fsr_repeats_answers.proofs.exchanges.order_exchanges.Goals as goal

pub returns-in-Err : goal.returns-in-Err
returns-in-Err c = λ other. inr c.in-Err.ensures.fault

pub returns-in-Ok-answer_log : goal.returns-in-Ok-answer_log
returns-in-Ok-answer_log c =
    let told = c.in-Ok-answer_log.ensures in
    judged c.args.budget (text_in c.args.packed.now) c.in-Ok.log told.0 c.in-Ok.ensures.log told.1 c.in-Ok-answer_log.reply told.2
