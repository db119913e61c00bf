-- Looked for at once, so that another value is refused at once.
use Rattle.std.proofs.Common.{rules}
use Rattle.history_search.proofs.cut.after.Goals as goal

pub returns-then-is_late : goal.returns-then-is_late
returns-then-is_late c = search rules

pub returns-else-is_late : goal.returns-else-is_late
returns-else-is_late c = search rules
