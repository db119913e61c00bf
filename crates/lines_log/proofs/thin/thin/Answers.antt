-- The thinner refuses what a search of the whole log would.
use Rattle.std.proofs.Common.{[], ◌∷◌, ◌++◌}
use Rattle.lines_log.proofs.ReadLemmas.{entry_fault}
use Rattle.lines_log.proofs.thin.thin.Goals as goal

pub returns-in-Err-clause-fault : goal.returns-in-Err-clause-fault
returns-in-Err-clause-fault c = λ log here kept.
    entry_fault (log ++ c.args.op ∷ []) c.in-Err.error c.told_of.result (c.in-Err.ensures.fault log here kept) c.told_of.ensures
