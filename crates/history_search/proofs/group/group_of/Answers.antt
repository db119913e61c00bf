-- Looked for at once, so that another value is refused at once.
use Rattle.std.proofs.Common.{rules}
use Rattle.history_search.proofs.group.group_of.Goals as goal

pub returns-then-ne : goal.returns-then-ne
returns-then-ne g c = search rules

pub returns-in_err-record : goal.returns-in_err-record
returns-in_err-record g c = search rules

pub returns-then-eq : goal.returns-then-eq
returns-then-eq g c = search rules

pub returns : goal.returns
returns g c = search rules
