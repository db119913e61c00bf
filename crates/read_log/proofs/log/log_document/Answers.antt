-- Looked for at once, so that another value is refused at once.
use Rattle.std.proofs.Common.{rules}
use Rattle.read_log.proofs.log.log_document.Goals as goal

pub returns-then-is_kind-clause-log : goal.returns-then-is_kind-clause-log
returns-then-is_kind-clause-log c = search rules

pub returns-then-is_kind-clause-searchable : goal.returns-then-is_kind-clause-searchable
returns-then-is_kind-clause-searchable c = search rules

pub returns-else-is_kind-clause-log : goal.returns-else-is_kind-clause-log
returns-else-is_kind-clause-log c = search rules

pub returns-else-is_kind-clause-searchable : goal.returns-else-is_kind-clause-searchable
returns-else-is_kind-clause-searchable c = search rules
