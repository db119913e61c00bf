-- What was found was printed.
use Rattle.std.proofs.lemmas.Result.{IfOk-weaker}
use Rattle.fsr_once_answers.proofs.answer.answer_log.Goals as goal

pub returns : goal.returns
returns c = IfOk-weaker c.print.result _ _ (λ answer told limit ops thin.
    let found = c.in_ok-found.ensures limit ops thin in
    (c.in_ok-found.found, c.in_ok-most.most, found.0, found.1, c.in_ok-most.ensures limit ops thin found.0, told)) c.print.ensures
