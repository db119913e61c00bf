-- What was handed out is of the reply.
use Rattle.fsr_check_answers.specs.Check.{IsCheckAnswer}
use Rattle.memory_answers.proofs.HandingLemmas.{answers}
use Rattle.memory_answers.proofs.answers.check.Goals as goal

pub returns : goal.returns
returns c =
    answers (IsCheckAnswer c.args.document.now) c.check-reply.result _ _ _ _
    c.check-reply.ensures c.hand_out.ensures
