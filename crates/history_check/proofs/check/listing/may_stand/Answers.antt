-- Looked for at once, so that another value is refused at once.
use Rattle.std.proofs.Common.{rules}
use Rattle.history_check.proofs.check.listing.may_stand.Goals as goal

pub returns-in-Some : goal.returns-in-Some
returns-in-Some g c = search rules

pub returns-then-eq : goal.returns-then-eq
returns-then-eq g c = search rules

pub returns-else-eq : goal.returns-else-eq
returns-else-eq g c = search rules
