-- It is told by the case.
use Rattle.theorem_uses.proofs.Handed.{statuses}
use Rattle.theorem_uses.proofs.handles.statuses_show.Goals as goal

pub returns : goal.returns
returns g c = statuses
