-- Looked for at once, so that another value is refused at once.
use Rattle.std.proofs.Common.{rules}
use Rattle.matrix_core.proofs.order.entry_of.Goals as goal

pub returns-in_err-stamp-clause-none : goal.returns-in_err-stamp-clause-none
returns-in_err-stamp-clause-none g c = search rules

pub returns-in_err-stamp-clause-some : goal.returns-in_err-stamp-clause-some
returns-in_err-stamp-clause-some g c = search rules

pub returns-then-is_some-clause-none : goal.returns-then-is_some-clause-none
returns-then-is_some-clause-none g c = search rules

pub returns-then-is_some-clause-some : goal.returns-then-is_some-clause-some
returns-then-is_some-clause-some g c = search rules

pub returns-else-is_some-clause-none : goal.returns-else-is_some-clause-none
returns-else-is_some-clause-none g c = search rules

pub returns-else-is_some-clause-some : goal.returns-else-is_some-clause-some
returns-else-is_some-clause-some g c = search rules
