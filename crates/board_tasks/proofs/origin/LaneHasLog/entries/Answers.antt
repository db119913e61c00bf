-- The log of a lane is what `log` gives.
use Rattle.board_tasks.proofs.origin.LaneHasLog.entries.Goals as goal

pub returns : goal.returns
returns g c = c.log.ensures
