-- Each is a part of it.
use Rattle.theorem_uses.proofs.Logged.{replies, chosen_by, entries, lanes, atomic_logs}
use Rattle.theorem_uses.proofs.logs.logs_show.Goals as goal

pub returns-clause-replies : goal.returns-clause-replies
returns-clause-replies g c = replies

pub returns-clause-chosen : goal.returns-clause-chosen
returns-clause-chosen g c = chosen_by

pub returns-clause-entries : goal.returns-clause-entries
returns-clause-entries g c = entries g.F.Family g.V.RecordLaw.obeys

pub returns-clause-lanes : goal.returns-clause-lanes
returns-clause-lanes g c = lanes g.F.Family g.V.RecordLaw.obeys

pub returns-clause-atomic : goal.returns-clause-atomic
returns-clause-atomic g c = atomic_logs g.F.Family g.V.RecordLaw.obeys
