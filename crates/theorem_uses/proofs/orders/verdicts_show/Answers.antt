-- Each is the verdict.
use Rattle.theorem_uses.proofs.Listings.{verdicts}
use Rattle.theorem_uses.proofs.orders.verdicts_show.Goals as goal

pub returns : goal.returns
returns g c = verdicts
