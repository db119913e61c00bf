-- The input was answered and the answer given, or it wasn't taken whole.
use Rattle.program_runs.proofs.RunLemmas.{ends_answered, ends_untaken, fails_answered}
use Rattle.program_runs.proofs.command.run_command.Goals as goal

pub returns-in-Ok-clause-runs : goal.returns-in-Ok-clause-runs
returns-in-Ok-clause-runs g c =
    ends_answered (g.C.Command.is_reply c.args.command.now) (g.C.Command.is_unbounded c.args.command.now) _ _ _ _ c.in-Ok.bytes.items
    _ _ _ _ c.reply-reply.result c.in-Ok.ensures.taken
    c.as_slice.ensures.value c.reply-reply.ensures.gives c.reply-reply.ensures.status c.give_answer.ensures.given

pub returns-in-Ok-clause-fails : goal.returns-in-Ok-clause-fails
returns-in-Ok-clause-fails g c =
    fails_answered _ _ _ _ _ _ _ c.reply-reply.result c.in-Ok.ensures.counts c.reply-reply.ensures.status c.give_answer.ensures.given

pub returns-in-Err-clause-runs : goal.returns-in-Err-clause-runs
returns-in-Err-clause-runs g c =
    ends_untaken _ (g.C.Command.is_unbounded c.args.command.now) _ _ _ _ _ _ c.in-Err.ensures.taken c.in-Err.ensures.counts
