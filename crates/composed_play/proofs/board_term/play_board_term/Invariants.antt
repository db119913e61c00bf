-- The play is the fold of the events over the steps passed, and each step keeps what is said of it.
use Rattle.composed_play.proofs.boards.Terms.{IsBoardTermSoFar}
use Rattle.composed_play.proofs.board_term.play_board_term.Given as goal

abbrev pub invariant-loop-who : goal.invariant-loop-who
invariant-loop-who g l = IsBoardTermSoFar l.now l.fn.opening l.fn.noise l.term l.who-index l.play
