-- One thread fewer each time.
use Rattle.std.proofs.Common.{ℕ}
use Rattle.program_streams.proofs.probe.+can_start.Given as goal

abbrev pub decreases-can_start : goal.decreases-can_start
decreases-can_start g l = l.count
