-- They are of the order with those that are left, and of their logs.
use Rattle.theorem_uses.proofs.Beside.{logs_of_all, logs_with_some, some_lanes, some_passes, writes_rise}
use Rattle.theorem_uses.proofs.Stale.{stale_entries}
use Rattle.theorem_uses.proofs.lost.some_passes_show.Goals as goal

pub returns-clause-passes : goal.returns-clause-passes
returns-clause-passes g c = some_passes g.F.Family g.V.RecordLaw.obeys

pub returns-clause-lanes : goal.returns-clause-lanes
returns-clause-lanes g c = some_lanes g.F.Family g.V.RecordLaw.obeys

pub returns-clause-rises : goal.returns-clause-rises
returns-clause-rises g c = writes_rise g.F.Family

pub returns-clause-logs : goal.returns-clause-logs
returns-clause-logs g c = logs_with_some g.F.Family

pub returns-clause-stale : goal.returns-clause-stale
returns-clause-stale g c = stale_entries g.F.Family

pub returns-clause-all : goal.returns-clause-all
returns-clause-all g c = logs_of_all
