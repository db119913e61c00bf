-- Each is a part of the access.
use Rattle.theorem_uses.proofs.Shown.{answered, mindful, reads, writes}
use Rattle.theorem_uses.proofs.parts.accesses_show.Goals as goal

pub returns-clause-reads : goal.returns-clause-reads
returns-clause-reads g c = reads

pub returns-clause-writes : goal.returns-clause-writes
returns-clause-writes g c = writes

pub returns-clause-answered : goal.returns-clause-answered
returns-clause-answered g c = answered

pub returns-clause-mindful : goal.returns-clause-mindful
returns-clause-mindful g c = mindful
