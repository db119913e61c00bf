-- By cases on the places.
use Rattle.cell_contract.proofs.Instances.{atomic, stale}
use Rattle.cell_contract.proofs.laws.stale_reads_are_refused.Goals as goal

pub returns-clause-atomic : goal.returns-clause-atomic
returns-clause-atomic c = atomic

pub returns-clause-refused : goal.returns-clause-refused
returns-clause-refused c numbers h = stale numbers h
