-- Looked for at once, so that another value is refused at once.
use Rattle.std.proofs.Common.{rules}
use Rattle.read_schedule.proofs.cell.has_room.Goals as goal

pub returns-then-writes-le-MAX_OPERATIONS : goal.returns-then-writes-le-MAX_OPERATIONS
returns-then-writes-le-MAX_OPERATIONS c = search rules

pub returns-else-writes-le-MAX_OPERATIONS : goal.returns-else-writes-le-MAX_OPERATIONS
returns-else-writes-le-MAX_OPERATIONS c = search rules
