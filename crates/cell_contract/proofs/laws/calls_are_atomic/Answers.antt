-- Numbers never fall along precedence, and a read has the record of its number; the calls merged by number are such an order.
use Rattle.cell_contract.proofs.Histories.{calls_atomic}
use Rattle.cell_contract.proofs.Reports.{has_order}
use Rattle.cell_contract.proofs.laws.calls_are_atomic.Goals as goal

pub returns-clause-atomic : goal.returns-clause-atomic
returns-clause-atomic g c opening written writes answers numbers reads ops number order is calls by =
    calls_atomic opening written writes answers numbers reads is ops number order calls by

pub returns-clause-ordered : goal.returns-clause-ordered
returns-clause-ordered g c opening written writes answers numbers reads is =
    let t = has_order opening written writes answers numbers reads is in
    (t.0, t.1, t.2, t.3, t.4, calls_atomic opening written writes answers numbers reads is t.0 t.1 t.2 t.3 t.4)
