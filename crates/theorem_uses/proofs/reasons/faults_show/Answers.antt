-- Each is a part of it.
use Rattle.theorem_uses.proofs.Reasoned.{answered, faults}
use Rattle.theorem_uses.proofs.reasons.faults_show.Goals as goal

pub returns-clause-answered : goal.returns-clause-answered
returns-clause-answered g c = answered

pub returns-clause-faults : goal.returns-clause-faults
returns-clause-faults g c = faults
