-- Looked for at once, so that another value is refused at once.
use Rattle.std.proofs.Common.{rules}
use Rattle.read_schedule.specs.Cell.{allowed}
use Rattle.read_schedule.proofs.cell.allowed.Goals as goal

pub returns-in_err-must : goal.returns-in_err-must
unfolding allowed
returns-in_err-must c = search rules

pub returns-in_err-must-2 : goal.returns-in_err-must-2
unfolding allowed
returns-in_err-must-2 c = search rules

pub returns-in_err-must-3 : goal.returns-in_err-must-3
unfolding allowed
returns-in_err-must-3 c = search rules

pub returns-in_err-must-4 : goal.returns-in_err-must-4
unfolding allowed
returns-in_err-must-4 c = search rules

pub returns : goal.returns
unfolding allowed
returns c = search rules
