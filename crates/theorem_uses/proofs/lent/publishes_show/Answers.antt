-- It is told by the case.
use Rattle.theorem_uses.proofs.Placed.{publishes}
use Rattle.theorem_uses.proofs.lent.publishes_show.Goals as goal

pub returns : goal.returns
returns g c = publishes
