-- Looked for at once, so that another value is refused at once.
use Rattle.std.proofs.Common.{rules}
use Rattle.read_history.proofs.check.check_document.Goals as goal

pub returns-then-is_kind : goal.returns-then-is_kind
returns-then-is_kind c = search rules

pub returns-else-is_kind : goal.returns-else-is_kind
returns-else-is_kind c = search rules
