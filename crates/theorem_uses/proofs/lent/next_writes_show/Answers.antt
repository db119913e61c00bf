-- It is told by the case.
use Rattle.theorem_uses.proofs.Placed.{next}
use Rattle.theorem_uses.proofs.lent.next_writes_show.Goals as goal

pub returns : goal.returns
returns g c = next
