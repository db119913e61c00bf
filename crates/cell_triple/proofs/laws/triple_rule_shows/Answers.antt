-- A read that has its number has its interval.
use Rattle.cell_triple.proofs.Timing.{timed_read_of}
use Rattle.cell_triple.proofs.laws.triple_rule_shows.Goals as goal

pub returns-clause-timed : goal.returns-clause-timed
returns-clause-timed g c o s r m n at = timed_read_of o r.put r.get r.now r.timed m n at
