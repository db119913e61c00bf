-- Looked for at once, so that another value is refused at once.
use Rattle.std.proofs.Common.{rules}
use Rattle.history_explain.proofs.breaks.reading.after.Goals as goal

pub returns-in_default-clause-right : goal.returns-in_default-clause-right
returns-in_default-clause-right g c = search rules

pub returns-in_default-clause-latest : goal.returns-in_default-clause-latest
returns-in_default-clause-latest g c = search rules

pub returns-in_default-clause-write : goal.returns-in_default-clause-write
returns-in_default-clause-write g c = search rules

pub returns-in_default-clause-wrong : goal.returns-in_default-clause-wrong
returns-in_default-clause-wrong g c = search rules

pub returns-in-Write-clause-right : goal.returns-in-Write-clause-right
returns-in-Write-clause-right g c = search rules

pub returns-in-Write-clause-latest : goal.returns-in-Write-clause-latest
returns-in-Write-clause-latest g c = search rules

pub returns-in-Write-clause-write : goal.returns-in-Write-clause-write
returns-in-Write-clause-write g c = search rules

pub returns-in-Write-clause-wrong : goal.returns-in-Write-clause-wrong
returns-in-Write-clause-wrong g c = search rules

pub returns-then-eq : goal.returns-then-eq
returns-then-eq g c = search rules

pub returns-else-eq : goal.returns-else-eq
returns-else-eq g c = search rules
