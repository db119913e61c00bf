-- What is told of the input went out, or a read failed.
use Rattle.fsr_watch_answers.proofs.RunLemmas.{given_unread, run_given}
use Rattle.fsr_watch_answers.proofs.program.run.Goals as goal

pub returns-in-Ok-clause-runs : goal.returns-in-Ok-clause-runs
returns-in-Ok-clause-runs g c =
    run_given _ _ _ _ c.in-Ok.reply _ _ _ c.in-Ok.ensures.watches c.give_told.ensures.given

pub returns-in-Err-clause-runs : goal.returns-in-Err-clause-runs
returns-in-Err-clause-runs g c = given_unread _ _ _ c.in-Err.ensures.watches.0 c.status.result c.in-Err.ensures.watches.1
    c.status.ensures.is
