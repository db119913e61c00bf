-- The judgement was printed.
use Rattle.std.proofs.lemmas.Result.{IfOk-weaker}
use Rattle.fsr_repeats_answers.proofs.exchanges.answer_log.Goals as goal

pub returns : goal.returns
returns c = IfOk-weaker c.print.result _ _ (λ reply told. (
  c.in_ok-judgement.judgement,
  c.in_ok-judgement.ensures,
  told,
)) c.print.ensures
