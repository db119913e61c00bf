-- It is told by the case.
use Rattle.theorem_uses.proofs.Taken.{hold_statuses, look_statuses, read_statuses}
use Rattle.theorem_uses.proofs.reads.read_statuses_show.Goals as goal

pub returns-clause-reads : goal.returns-clause-reads
returns-clause-reads g c = read_statuses

pub returns-clause-looks : goal.returns-clause-looks
returns-clause-looks g c = look_statuses

pub returns-clause-holds : goal.returns-clause-holds
returns-clause-holds g c = hold_statuses
