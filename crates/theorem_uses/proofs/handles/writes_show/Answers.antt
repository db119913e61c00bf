-- It is told by the case.
use Rattle.theorem_uses.proofs.Handed.{written}
use Rattle.theorem_uses.proofs.handles.writes_show.Goals as goal

pub returns : goal.returns
returns g c = written
