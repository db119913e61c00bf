-- Later reads rise.
use Rattle.theorem_uses.proofs.CellsSoFar.{stale}
use Rattle.theorem_uses.proofs.cells.stale_answers_are_absurd.Goals as goal

pub returns : goal.returns
returns c = stale
