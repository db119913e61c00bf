-- Looked for at once, so that another value is refused at once.
use Rattle.std.proofs.Common.{rules}
use Rattle.read_schedule.proofs.plans.all_steps_in_range.Goals as goal

pub loop-term-init : goal.loop-term-init
loop-term-init c = search rules
