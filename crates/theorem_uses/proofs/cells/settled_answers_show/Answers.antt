-- The places of the answers never fall.
use Rattle.theorem_uses.proofs.Answered.{goes_not_back}
use Rattle.theorem_uses.proofs.cells.settled_answers_show.Goals as goal

pub returns : goal.returns
returns g c = goes_not_back
