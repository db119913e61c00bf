-- Each is a part of the report.
use Rattle.theorem_uses.proofs.Reported.{apart, boards_show, cells_show, matrices_show, no_older}
use Rattle.theorem_uses.proofs.reports.reports_show.Goals as goal

pub returns-clause-cells : goal.returns-clause-cells
returns-clause-cells g c = cells_show

pub returns-clause-matrices : goal.returns-clause-matrices
returns-clause-matrices g c = matrices_show

pub returns-clause-boards : goal.returns-clause-boards
returns-clause-boards g c = boards_show

pub returns-clause-fresh : goal.returns-clause-fresh
returns-clause-fresh g c = no_older

pub returns-clause-clear : goal.returns-clause-clear
returns-clause-clear g c = apart
