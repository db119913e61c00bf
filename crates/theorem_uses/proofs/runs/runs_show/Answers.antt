-- Each is a part of the run.
use Rattle.theorem_uses.proofs.Single.{register, run}
use Rattle.theorem_uses.proofs.runs.runs_show.Goals as goal

pub returns-clause-register : goal.returns-clause-register
returns-clause-register g c = register

pub returns-clause-run : goal.returns-clause-run
returns-clause-run g c = run
