-- Looked for at once, so that another value is refused at once.
use Rattle.std.proofs.Common.{rules}
use Rattle.read_schedule.proofs.turns.turn_named.Goals as goal

pub returns-in-119 : goal.returns-in-119
returns-in-119 c = search rules

pub returns-in-114 : goal.returns-in-114
returns-in-114 c = search rules

pub returns-in_default : goal.returns-in_default
returns-in_default c = search rules
