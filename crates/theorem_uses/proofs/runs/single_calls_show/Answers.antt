-- With one call of known length all that the definitions say computes.
use Rattle.theorem_uses.proofs.Single.{silent, told}
use Rattle.theorem_uses.proofs.runs.single_calls_show.Goals as goal

pub returns-clause-told : goal.returns-clause-told
returns-clause-told g c = told

pub returns-clause-silent : goal.returns-clause-silent
returns-clause-silent g c = silent
