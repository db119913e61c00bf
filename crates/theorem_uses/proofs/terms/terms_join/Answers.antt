-- The orders of both boards join.
use Rattle.theorem_uses.proofs.Later.{terms_join}
use Rattle.theorem_uses.proofs.terms.terms_join.Goals as goal

pub returns : goal.returns
returns g c = terms_join g.F.Family
