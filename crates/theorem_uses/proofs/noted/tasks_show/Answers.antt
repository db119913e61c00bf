-- Each is a part of what was done.
use Rattle.theorem_uses.proofs.Noting.{made, ran}
use Rattle.theorem_uses.proofs.noted.tasks_show.Goals as goal

pub returns-clause-ran : goal.returns-clause-ran
returns-clause-ran g c = ran g.F.Family g.V.RecordLaw.obeys

pub returns-clause-made : goal.returns-clause-made
returns-clause-made g c = made g.F.Family g.V.RecordLaw.obeys
