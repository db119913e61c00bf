-- What was found was printed.
use Rattle.std.proofs.lemmas.Result.{IfOk-weaker}
use Rattle.fsr_keys_answers.proofs.small_answer.answer_small.Goals as goal

pub returns : goal.returns
returns c = IfOk-weaker c.print.result _ _ (λ answer told limit ops thin.
    let found = c.in_ok-found.ensures limit ops thin in
    (c.in_ok-found.found, found.0, found.1, told)) c.print.ensures
