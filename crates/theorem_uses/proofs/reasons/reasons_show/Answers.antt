-- Each is a part of it.
use Rattle.theorem_uses.proofs.Reasoned.{unwritten, early, stale, crossed, limited}
use Rattle.theorem_uses.proofs.reasons.reasons_show.Goals as goal

pub returns-clause-unwritten : goal.returns-clause-unwritten
returns-clause-unwritten g c = unwritten

pub returns-clause-early : goal.returns-clause-early
returns-clause-early g c = early

pub returns-clause-stale : goal.returns-clause-stale
returns-clause-stale g c = stale

pub returns-clause-crossed : goal.returns-clause-crossed
returns-clause-crossed g c = crossed

pub returns-clause-limited : goal.returns-clause-limited
returns-clause-limited g c = limited
