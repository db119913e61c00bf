-- It is the permit.
use Rattle.theorem_uses.proofs.Noting.{permits}
use Rattle.theorem_uses.proofs.noted.permits_show.Goals as goal

pub returns : goal.returns
returns g c = permits
