-- The log was answered and the answer given, or it wasn't taken whole.
use Rattle.std.proofs.Common.{refl}
use Rattle.program_runs.proofs.RunLemmas.{ends_answered, ends_untaken}
use Rattle.fsr_order_input.specs.Kinds.{are_lines}
use Rattle.fsr_order_input.specs.Inputs.{input_text}
use Rattle.fsr_order_input.proofs.command.run_log.Goals as goal

pub returns-in-Ok-clause-runs : goal.returns-in-Ok-clause-runs
returns-in-Ok-clause-runs g c =
    ends_answered (g.C.LogCommand.is_reply c.args.command.now) are_lines _ _ _ _ (input_text c.in-Ok.log) _ _ _ _ c.reply-reply.result
    (c.in-Ok.ensures.taken.0, c.in-Ok.ensures.taken.1) refl c.reply-reply.ensures.gives c.reply-reply.ensures.status
    c.give_answer.ensures.given

pub returns-in-Err-clause-runs : goal.returns-in-Err-clause-runs
returns-in-Err-clause-runs g c = ends_untaken _ are_lines _ _ _ _ _ _ c.in-Err.ensures.taken c.in-Err.ensures.counts
