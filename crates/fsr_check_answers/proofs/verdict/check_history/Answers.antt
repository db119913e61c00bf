-- The verdict by the bands' own comparison is the verdict by their values, from which text and status follow.
use Rattle.fsr_check_answers.proofs.AnswerLemmas.{answers_check}
use Rattle.fsr_check_answers.proofs.verdict.check_history.Goals as goal

pub returns : goal.returns
returns c = answers_check _ _ _ _ c.as_slice.ensures c.check_order-verdict.ensures c.in_ok-answer.ensures
