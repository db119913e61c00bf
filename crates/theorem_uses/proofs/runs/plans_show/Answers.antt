-- By the records of its calls.
use Rattle.theorem_uses.proofs.Keeping.{after_it_reads, one_record_a_row}
use Rattle.theorem_uses.proofs.runs.plans_show.Goals as goal

pub returns-clause-row : goal.returns-clause-row
returns-clause-row g c = one_record_a_row

pub returns-clause-reads : goal.returns-clause-reads
returns-clause-reads g c = after_it_reads
