-- What the terms passed gave, with what those to come will give, is what all terms give.
use Rattle.matrix_play.proofs.matrices.Reports.{IsReportSoFar}
use Rattle.matrix_play.proofs.matrix_report.play_terms.Given as goal

abbrev pub invariant-loop-term : goal.invariant-loop-term
invariant-loop-term g l = IsReportSoFar l.schedule.terms l.schedule.opening l.term-index l.opening l.now l.told.terms.items
    l.told.ops.items l.told.stamps.items l.told.order.items
