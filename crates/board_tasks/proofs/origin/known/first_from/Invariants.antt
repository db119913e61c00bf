-- What stands below the two places, and from them on, is known; they come nearer to each other.
use Rattle.std.proofs.Common.{◌-◌}
use Rattle.board_tasks.specs.inner.Found.{AreParted}
use Rattle.board_tasks.proofs.origin.known.first_from.Given as goal

abbrev pub invariant-loop-low : goal.invariant-loop-low
invariant-loop-low g l = AreParted l.log l.stamp l.low l.high

abbrev pub decreases-loop-low : goal.decreases-loop-low
decreases-loop-low g l = l.high - l.low
