-- What was handed out is of the reply.
use Rattle.picture_answers.specs.Answers.{IsPictureAnswer}
use Rattle.memory_answers.proofs.HandingLemmas.{answers}
use Rattle.memory_answers.proofs.answers.picture.Goals as goal

pub returns : goal.returns
returns c =
    answers (IsPictureAnswer c.args.document.now) c.answer-reply.result _ _ _ _
    c.answer-reply.ensures c.hand_out.ensures
