-- Looked for at once, so that another value is refused at once.
use Rattle.std.proofs.Common.{rules}
use Rattle.read_schedule.specs.Board.{board_in}
use Rattle.read_schedule.proofs.board.board_in.Goals as goal

pub returns-clause-document : goal.returns-clause-document
unfolding board_in
returns-clause-document c = search rules
