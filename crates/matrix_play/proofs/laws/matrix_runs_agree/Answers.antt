-- By induction over the positions of the choices: a read has the number of the last write before it, whose operation chose before.
use Rattle.matrix_play.proofs.matrices.Agree.{runs_agree}
use Rattle.matrix_play.proofs.laws.matrix_runs_agree.Goals as goal

pub returns : goal.returns
returns g c =
    λ at span opening ops these stamps those chosen picked cut. runs_agree at span opening cut ops these stamps those chosen picked
