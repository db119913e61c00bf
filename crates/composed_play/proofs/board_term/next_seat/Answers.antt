-- Looked for at once, so that another value is refused at once.
use Rattle.std.proofs.Common.{rules}
use Rattle.composed_play.proofs.board_term.next_seat.Goals as goal

pub returns-then-seat-n : goal.returns-then-seat-n
returns-then-seat-n c = search rules

pub returns-else-seat-n : goal.returns-else-seat-n
returns-else-seat-n c = search rules
