-- Looked for at once, so that another value is refused at once.
use Rattle.std.proofs.Common.{rules}
use Rattle.matrix_core.proofs.operations.ended.Goals as goal

pub returns-in-Written : goal.returns-in-Written
returns-in-Written g c = search rules

pub returns-in-Seen : goal.returns-in-Seen
returns-in-Seen g c = search rules

pub returns-in-Ended : goal.returns-in-Ended
returns-in-Ended g c = search rules
