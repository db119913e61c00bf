-- The document was answered and the answer given, or it wasn't taken whole.
use Rattle.std.proofs.Common.{Ok, Err}
use Rattle.program_runs.proofs.RunLemmas.{ends_answered, ends_untaken, fails_answered}
use Rattle.fsr_answers.proofs.LowStatus.{low_answer}
use Rattle.fsr_answers.proofs.TakenLemmas.{taken_so}
use Rattle.fsr_answers.specs.Answers.{IsFsrAnswer}
use Rattle.fsr_answers.specs.Run.{is_unbounded}
use Rattle.fsr_answers.proofs.program.run_document.Goals as goal

pub returns-in-Ok-clause-runs : goal.returns-in-Ok-clause-runs
returns-in-Ok-clause-runs g c =
    let taken = taken_so (is_unbounded c.args.want) _ _ (Ok c.in-Ok.bytes) c.requires.bounded c.in-Ok.ensures.taken in
    ends_answered (IsFsrAnswer g.F.Family c.args.want) (is_unbounded c.args.want)
    _ _ _ _ c.in-Ok.bytes.items _ _ _ _ c.answer-reply.result taken
    c.as_slice.ensures.value c.answer-reply.ensures (low_answer g.F.Family c.args.want _ c.answer-reply.result c.answer-reply.ensures)
    c.give_answer.ensures.given

pub returns-in-Ok-clause-fails : goal.returns-in-Ok-clause-fails
returns-in-Ok-clause-fails g c =
    fails_answered _ _ _ _ _ _ _ c.answer-reply.result c.in-Ok.ensures.counts
    (low_answer g.F.Family c.args.want _ c.answer-reply.result c.answer-reply.ensures) c.give_answer.ensures.given

pub returns-in-Err-clause-runs : goal.returns-in-Err-clause-runs
returns-in-Err-clause-runs g c =
    let taken = taken_so (is_unbounded c.args.want) _ _ (Err c.in-Err.status) c.requires.bounded c.in-Err.ensures.taken in
    ends_untaken _ (is_unbounded c.args.want) _ _ _ _ _ _ taken c.in-Err.ensures.counts
