-- What the first overrun asks of each term is what the schedule must be.
use Rattle.composed_play.proofs.board_report.play_board.Goals as goal

pub first_overrun-requires-clause-each : goal.first_overrun-requires-clause-each
first_overrun-requires-clause-each g c = rw c.as_slice.ensures c.requires.each
