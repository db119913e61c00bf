-- Looked for at once, so that another value is refused at once.
use Rattle.std.proofs.Common.{rules}
use Rattle.history_check.proofs.check.listing.mark.Goals as goal

pub returns-then-place-base-clause-len : goal.returns-then-place-base-clause-len
returns-then-place-base-clause-len c = search rules

pub returns-then-place-base-clause-first : goal.returns-then-place-base-clause-first
returns-then-place-base-clause-first c = search rules

pub returns-then-place-base-clause-again : goal.returns-then-place-base-clause-again
returns-then-place-base-clause-again c = search rules

pub returns-clause-len : goal.returns-clause-len
returns-clause-len c = search rules

pub returns-clause-first : goal.returns-clause-first
returns-clause-first c = search rules

pub returns-clause-again : goal.returns-clause-again
returns-clause-again c = search rules
