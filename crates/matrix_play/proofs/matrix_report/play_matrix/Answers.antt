-- The report is that of the run, of which the rest follows.
use Rattle.std.proofs.Common.{rules}
use Rattle.std.specs.Result.{IfOk}
use Rattle.std.proofs.lemmas.Result.{IfOk-weaker}
use Rattle.matrix_play.specs.MatrixReports.{IsMatrixReport}
use Rattle.matrix_play.specs.inner.PlayedReports.{IsReport}
use Rattle.matrix_play.proofs.matrices.Turns.{matrix_report}
use Rattle.matrix_play.proofs.matrix_report.play_matrix.Goals as goal

pub first_overrun-requires-clause-each : goal.first_overrun-requires-clause-each
first_overrun-requires-clause-each g c = rw c.as_slice.ensures c.requires.each

pub returns-in-None-clause-report : goal.returns-in-None-clause-report
returns-in-None-clause-report g c =
    let run : IfOk c.map_err.result (IsReport c.args.schedule.now) = search rules in
    IfOk-weaker c.map_err.result (IsReport c.args.schedule.now) (IsMatrixReport c.args.schedule.now)
    (λ report is. matrix_report c.args.schedule.now report c.requires (rw c.as_slice.ensures at c.in-None.ensures.none) is) run
