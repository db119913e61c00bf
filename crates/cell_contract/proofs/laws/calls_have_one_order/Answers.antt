-- First the writes and then the reads are a history, and the merged calls an order of it.
use Rattle.cell_contract.proofs.OneOrder.{one_order}
use Rattle.cell_contract.proofs.laws.calls_have_one_order.Goals as goal

pub returns : goal.returns
returns g c opening written writes answers numbers reads is = one_order opening written writes answers numbers reads is
