-- The verdict was printed.
use Rattle.std.proofs.lemmas.Result.{IfOk-weaker}
use Rattle.fsr_keys_answers.proofs.keys_answer.answer_keys.Goals as goal

pub returns : goal.returns
returns c = IfOk-weaker c.print.result _ _ (λ answer told text is. (
  c.in_ok-verdict.verdict,
  c.in_ok-verdict.ensures text is,
  told,
)) c.print.ensures
