-- Looked for at once, so that another value is refused at once.
use Rattle.std.proofs.Common.{rules}
use Rattle.read_history.proofs.history.has_item.Goals as goal

pub returns-in-Write-Some : goal.returns-in-Write-Some
returns-in-Write-Some c = search rules

pub returns-in-Write-None : goal.returns-in-Write-None
returns-in-Write-None c = search rules

pub returns-in_default-Some : goal.returns-in_default-Some
returns-in_default-Some c = search rules

pub returns-in_default-None : goal.returns-in_default-None
returns-in_default-None c = search rules
