-- Looked for at once, so that another value is refused at once.
use Rattle.std.proofs.Common.{rules}
use Rattle.read_schedule.proofs.plans.terms_in_range.Goals as goal

pub returns-then-members_in_range : goal.returns-then-members_in_range
returns-then-members_in_range c = search rules

pub returns-else-members_in_range : goal.returns-else-members_in_range
returns-else-members_in_range c = search rules
