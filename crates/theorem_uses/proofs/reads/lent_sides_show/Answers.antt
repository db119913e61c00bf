-- It is told by the case.
use Rattle.theorem_uses.proofs.Lacking.{lacks}
use Rattle.theorem_uses.proofs.Taken.{backs}
use Rattle.theorem_uses.proofs.reads.lent_sides_show.Goals as goal

pub returns-clause-backs : goal.returns-clause-backs
returns-clause-backs g c = backs

pub returns-clause-lacks : goal.returns-clause-lacks
returns-clause-lacks g c = lacks
