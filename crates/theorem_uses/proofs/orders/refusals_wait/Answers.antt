-- No write stands before it.
use Rattle.theorem_uses.proofs.Ordered.{waits}
use Rattle.theorem_uses.proofs.orders.refusals_wait.Goals as goal

pub returns : goal.returns
returns g c = waits
