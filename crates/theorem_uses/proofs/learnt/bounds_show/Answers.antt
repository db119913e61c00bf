-- Each is a part of the pass.
use Rattle.theorem_uses.proofs.Learning.{bounds, same}
use Rattle.theorem_uses.proofs.learnt.bounds_show.Goals as goal

pub returns-clause-bounds : goal.returns-clause-bounds
returns-clause-bounds g c = bounds g.F.Family

pub returns-clause-same : goal.returns-clause-same
returns-clause-same g c = same g.F.Family
