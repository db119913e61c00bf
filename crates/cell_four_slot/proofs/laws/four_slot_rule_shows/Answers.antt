-- A read that has its number has its interval.
use Rattle.cell_four_slot.proofs.Timing.{timed_at_any}
use Rattle.cell_four_slot.proofs.laws.four_slot_rule_shows.Goals as goal

pub returns-clause-timed : goal.returns-clause-timed
returns-clause-timed g c o s r m n at =
    timed_at_any o r.cell.put r.cell.get r.cell.now _ _ r.cell.core.writer r.cell.core.reader r.cell.timed m n at
