-- It is the order by stamp.
use Rattle.board_history.proofs.Registers.{one_order}
use Rattle.board_history.proofs.laws.calls_are_of_one_register.Goals as goal

pub returns : goal.returns
returns g c width n limit opening steps did last run own = one_order width n limit opening steps did run last own
