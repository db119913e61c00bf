-- What was found of the operations that are kept is true of the log.
use Rattle.std.proofs.Common.{Ok}
use Rattle.std.specs.Prelude.{unwrap_or}
use Rattle.fsr_once_answers.specs.LinesAnswers.{Found}
use Rattle.text_lines.specs.Words.{text_in}
use Rattle.fsr_once_answers.proofs.StatusLemmas.{status_lines}
use Rattle.fsr_once_answers.proofs.answer.order_lines.Goals as goal

pub returns-in-Ok-answer_log-clause-gives : goal.returns-in-Ok-answer_log-clause-gives
returns-in-Ok-answer_log-clause-gives c =
    let log = c.in-Ok.ensures.log in
    let told = c.in-Ok-answer_log.ensures (unwrap_or log.1.head.limit 1) log.0 log.1.thinned in record {
      log = log.0;
      read = c.in-Ok.log;
      found = told.0;
      is = log.1;
      answered = told.2;
      named = told.3;
      most = told.1;
      counted = told.4;
      told = told.5;
    }

pub returns-in-Ok-answer_log-clause-status : goal.returns-in-Ok-answer_log-clause-status
returns-in-Ok-answer_log-clause-status c =
    let log = c.in-Ok.ensures.log in
    let told = c.in-Ok-answer_log.ensures (unwrap_or log.1.head.limit 1) log.0 log.1.thinned in
    let found : Found c.args.show (text_in c.args.packed.now) c.in-Ok-answer_log.answer = record {
      log = log.0;
      read = c.in-Ok.log;
      found = told.0;
      is = log.1;
      answered = told.2;
      named = told.3;
      most = told.1;
      counted = told.4;
      told = told.5;
    } in status_lines c.args.show (text_in c.args.packed.now) (Ok c.in-Ok-answer_log.answer) found
