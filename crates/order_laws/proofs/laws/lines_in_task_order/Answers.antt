-- The tasks of a log in lines take turns.
use Rattle.order_laws.proofs.laws.lines_in_task_order.Goals as goal

pub returns : goal.returns
returns c = λ bytes log read is order keeps. c.tasks_in_order.ensures log order is.is.turns keeps
