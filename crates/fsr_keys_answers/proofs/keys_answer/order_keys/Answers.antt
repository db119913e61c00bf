-- The verdict is on the log that was read.
use Rattle.text_lines.specs.Words.{text_in}
use Rattle.fsr_keys_answers.proofs.keys_answer.order_keys.Goals as goal

pub returns-in-Ok-answer_keys : goal.returns-in-Ok-answer_keys
returns-in-Ok-answer_keys c =
    let told = c.in-Ok-answer_keys.ensures (text_in c.args.packed.now) c.in-Ok.ensures.logs in record {
      read = c.in-Ok.log;
      verdict = told.0;
      is = c.in-Ok.ensures.logs;
      judged = told.1;
      told = told.2;
    }
