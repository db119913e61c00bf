-- Looked for at once, so that another value is refused at once.
use Rattle.std.proofs.Common.{rules}
use Rattle.read_schedule.proofs.ranges.steps_in_range.Goals as goal

pub returns : goal.returns
returns c = search rules
