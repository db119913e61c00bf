-- Each is a part of its definition.
use Rattle.theorem_uses.proofs.Made.{all_passes, calls, made, passes}
use Rattle.theorem_uses.proofs.boards.passes_show.Goals as goal

pub returns-clause-calls : goal.returns-clause-calls
returns-clause-calls g c = calls g.F.Family g.V.RecordLaw.obeys

pub returns-clause-made : goal.returns-clause-made
returns-clause-made g c = made g.F.Family g.V.RecordLaw.obeys

pub returns-clause-passes : goal.returns-clause-passes
returns-clause-passes g c = passes g.F.Family g.V.RecordLaw.obeys

pub returns-clause-all : goal.returns-clause-all
returns-clause-all g c = all_passes g.F.Family g.V.RecordLaw.obeys
