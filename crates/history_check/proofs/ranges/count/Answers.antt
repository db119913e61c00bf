-- Looked for at once, so that another value is refused at once.
use Rattle.std.proofs.Common.{rules}
use Rattle.history_check.proofs.ranges.count.Goals as goal

pub returns-in-Write-clause-counted : goal.returns-in-Write-clause-counted
returns-in-Write-clause-counted g c = search rules

pub returns-in-Write-clause-lawful : goal.returns-in-Write-clause-lawful
returns-in-Write-clause-lawful g c = search rules

pub returns-in-Write-clause-broken : goal.returns-in-Write-clause-broken
returns-in-Write-clause-broken g c = search rules

pub returns-in-Refused-clause-counted : goal.returns-in-Refused-clause-counted
returns-in-Refused-clause-counted g c = search rules

pub returns-in-Refused-clause-lawful : goal.returns-in-Refused-clause-lawful
returns-in-Refused-clause-lawful g c = search rules

pub returns-in-Refused-clause-broken : goal.returns-in-Refused-clause-broken
returns-in-Refused-clause-broken g c = search rules

pub returns-in_default-clause-counted : goal.returns-in_default-clause-counted
returns-in_default-clause-counted g c = search rules

pub returns-in_default-clause-lawful : goal.returns-in_default-clause-lawful
returns-in_default-clause-lawful g c = search rules

pub returns-in_default-clause-broken : goal.returns-in_default-clause-broken
returns-in_default-clause-broken g c = search rules

pub returns-in_default-2-clause-counted : goal.returns-in_default-2-clause-counted
returns-in_default-2-clause-counted g c = search rules

pub returns-in_default-2-clause-lawful : goal.returns-in_default-2-clause-lawful
returns-in_default-2-clause-lawful g c = search rules

pub returns-in_default-2-clause-broken : goal.returns-in_default-2-clause-broken
returns-in_default-2-clause-broken g c = search rules

pub returns-in_default-3-clause-counted : goal.returns-in_default-3-clause-counted
returns-in_default-3-clause-counted g c = search rules

pub returns-in_default-3-clause-lawful : goal.returns-in_default-3-clause-lawful
returns-in_default-3-clause-lawful g c = search rules

pub returns-in_default-3-clause-broken : goal.returns-in_default-3-clause-broken
returns-in_default-3-clause-broken g c = search rules

pub returns-in_default-4-clause-counted : goal.returns-in_default-4-clause-counted
returns-in_default-4-clause-counted g c = search rules

pub returns-in_default-4-clause-lawful : goal.returns-in_default-4-clause-lawful
returns-in_default-4-clause-lawful g c = search rules

pub returns-in_default-4-clause-broken : goal.returns-in_default-4-clause-broken
returns-in_default-4-clause-broken g c = search rules
