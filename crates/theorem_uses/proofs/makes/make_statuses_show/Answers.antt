-- It is told by the case.
use Rattle.theorem_uses.proofs.Opened.{end_statuses, make_statuses}
use Rattle.theorem_uses.proofs.makes.make_statuses_show.Goals as goal

pub returns-clause-makes : goal.returns-clause-makes
returns-clause-makes g c = make_statuses

pub returns-clause-ends : goal.returns-clause-ends
returns-clause-ends g c = end_statuses
