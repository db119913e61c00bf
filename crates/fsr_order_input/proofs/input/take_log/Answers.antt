-- The front was taken, and what is behind it.
use Rattle.fsr_order_input.proofs.InputLemmas.{behind_untaken, log_taken}
use Rattle.fsr_order_input.proofs.input.take_log.Goals as goal

pub returns-in-Ok-take_behind-clause-taken : goal.returns-in-Ok-take_behind-clause-taken
returns-in-Ok-take_behind-clause-taken g c =
    log_taken _ _ _ c.in-Ok.front.items c.in-Ok-take_behind.log c.in-Ok.ensures.taken c.in-Ok-take_behind.ensures.taken

pub returns-in-Err-take_behind-clause-taken : goal.returns-in-Err-take_behind-clause-taken
returns-in-Err-take_behind-clause-taken g c =
    behind_untaken _ _ _ c.in-Ok.front.items c.in-Err-take_behind.fault c.in-Ok.ensures.taken.0 c.in-Err-take_behind.ensures.taken
