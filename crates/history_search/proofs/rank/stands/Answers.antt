-- Looked for at once, so that another value is refused at once.
use Rattle.std.proofs.Common.{rules}
use Rattle.history_search.proofs.rank.stands.Goals as goal

pub returns-in-None : goal.returns-in-None
returns-in-None c = search rules

pub returns-then-is_some : goal.returns-then-is_some
returns-then-is_some c = search rules

pub returns-else-is_some : goal.returns-else-is_some
returns-else-is_some c = search rules
