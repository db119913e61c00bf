-- The play is the fold of the events over the steps passed, and each step keeps what is said of it.
use Rattle.matrix_play.proofs.matrices.Plays.{IsTermSoFar}
use Rattle.matrix_play.proofs.matrix_term.play_term.Given as goal

abbrev pub invariant-loop-who : goal.invariant-loop-who
invariant-loop-who g l = IsTermSoFar l.now l.fn.opening l.term l.who-index l.play
