-- Looked for at once, so that another value is refused at once.
use Rattle.std.proofs.Common.{rules}
use Rattle.read_schedule.proofs.plans.plans_in_range.Goals as goal

pub returns-then-plans-le-MAX_PROCESSES : goal.returns-then-plans-le-MAX_PROCESSES
returns-then-plans-le-MAX_PROCESSES c = search rules

pub returns-else-plans-le-MAX_PROCESSES : goal.returns-else-plans-le-MAX_PROCESSES
returns-else-plans-le-MAX_PROCESSES c = search rules
