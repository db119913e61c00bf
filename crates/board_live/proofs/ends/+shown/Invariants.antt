-- Each call takes one pass out.
use Rattle.std.proofs.Common.{length}
use Rattle.board_live.proofs.ends.+shown.Given as goal

abbrev pub decreases-shown : goal.decreases-shown
decreases-shown g l = length l.passes.now.items
