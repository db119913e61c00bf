-- Looked for at once, so that another value is refused at once.
use Rattle.std.proofs.Common.{rules}
use Rattle.history_check.proofs.check.reading.left.Goals as goal

pub returns-in_err-item-clause-right : goal.returns-in_err-item-clause-right
returns-in_err-item-clause-right g c = search rules

pub returns-in_err-item-clause-wrong : goal.returns-in_err-item-clause-wrong
returns-in_err-item-clause-wrong g c = search rules

pub returns-in_err-item-clause-value : goal.returns-in_err-item-clause-value
returns-in_err-item-clause-value g c = search rules

pub returns-in-Write-clause-right : goal.returns-in-Write-clause-right
returns-in-Write-clause-right g c = search rules

pub returns-in-Write-clause-wrong : goal.returns-in-Write-clause-wrong
returns-in-Write-clause-wrong g c = search rules

pub returns-in-Write-clause-value : goal.returns-in-Write-clause-value
returns-in-Write-clause-value g c = search rules

pub returns-then-eq : goal.returns-then-eq
returns-then-eq g c = search rules

pub returns-else-eq : goal.returns-else-eq
returns-else-eq g c = search rules
