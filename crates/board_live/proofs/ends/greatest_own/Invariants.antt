-- The record is the greatest of those of the passes so far.
use Rattle.board_live.proofs.Ending.{IsGreatestSoFar}
use Rattle.board_live.proofs.ends.greatest_own.Given as goal

abbrev pub invariant-loop-k : goal.invariant-loop-k
invariant-loop-k g l = IsGreatestSoFar l.fn.passes.items l.k l.last
