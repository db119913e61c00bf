-- What the terms passed gave, with what those to come will give, is what all terms give.
use Rattle.composed_play.proofs.boards.Joined.{IsBoardReportSoFar}
use Rattle.composed_play.proofs.board_report.play_board_terms.Given as goal

abbrev pub invariant-loop-term : goal.invariant-loop-term
invariant-loop-term g l =
    IsBoardReportSoFar l.schedule.terms l.schedule.opening l.schedule.noise l.term-index l.opening l.now l.told.terms.items
    l.told.ops.items l.told.stamps.items l.told.slots.items l.told.order.items
