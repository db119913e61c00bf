-- What was found of the operations that are kept is true of the log.
use Rattle.std.specs.Prelude.{unwrap_or}
use Rattle.fsr_keys_answers.proofs.small_answer.order_small.Goals as goal

pub returns-in-Ok-answer_small : goal.returns-in-Ok-answer_small
returns-in-Ok-answer_small c =
    let log = c.in-Ok.ensures.log in
    let told = c.in-Ok-answer_small.ensures (unwrap_or log.1.head.limit 1) log.0 log.1.thinned in record {
      log = log.0;
      read = c.in-Ok.log;
      found = told.0;
      is = log.1;
      answered = told.1;
      named = told.2;
      told = told.3;
    }
