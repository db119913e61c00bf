-- Each is a part of it.
use Rattle.theorem_uses.proofs.Played.{of_run, finished}
use Rattle.theorem_uses.proofs.mechanisms.runs_of_cells_show.Goals as goal

pub returns-clause-run : goal.returns-clause-run
returns-clause-run g c = of_run

pub returns-clause-reads : goal.returns-clause-reads
returns-clause-reads g c = finished
