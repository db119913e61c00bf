-- What was handed out is of the reply.
use Rattle.fsr_play_answers.specs.Play.{IsPlayAnswer}
use Rattle.memory_answers.proofs.HandingLemmas.{answers}
use Rattle.memory_answers.proofs.answers.play.Goals as goal

pub returns : goal.returns
returns c =
    answers (IsPlayAnswer c.args.document.now) c.play-reply.result _ _ _ _ c.play-reply.ensures c.hand_out.ensures
