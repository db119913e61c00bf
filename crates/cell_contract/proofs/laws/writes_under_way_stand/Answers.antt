-- By the number of what the register holds at the read.
use Rattle.cell_contract.proofs.Instances.{begun_read, none_begun, stands_if_read}
use Rattle.cell_contract.proofs.laws.writes_under_way_stand.Goals as goal

pub returns-clause-order : goal.returns-clause-order
returns-clause-order c = begun_read

pub returns-clause-stands : goal.returns-clause-stands
returns-clause-stands c o = stands_if_read o

pub returns-clause-refused : goal.returns-clause-refused
returns-clause-refused c o = none_begun o
