-- It is told by the case.
use Rattle.theorem_uses.proofs.Placed.{fillings}
use Rattle.theorem_uses.proofs.lent.fillings_show.Goals as goal

pub returns : goal.returns
returns g c = fillings
