-- By induction over the steps of the term: each cell is the trace of its steps, and each process has gathered their answers.
use Rattle.composed_play.proofs.boards.Folds.{choices_see}
use Rattle.composed_play.proofs.laws.boards_see.Goals as goal

pub returns : goal.returns
returns g c at span opening noise cut left i k t h = choices_see at span opening noise cut left i k t h
