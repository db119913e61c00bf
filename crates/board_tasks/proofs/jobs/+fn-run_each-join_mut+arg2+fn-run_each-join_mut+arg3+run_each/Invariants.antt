-- Each half is shorter than the whole.
use Rattle.std.proofs.Common.{length}
use Rattle.board_tasks.proofs.jobs.+fn-run_each-join_mut+arg2+fn-run_each-join_mut+arg3+run_each.Given as goal

abbrev pub decreases-join_mut+arg2 : goal.decreases-join_mut+arg2
decreases-join_mut+arg2 g l = length l.front.now

abbrev pub decreases-join_mut+arg3 : goal.decreases-join_mut+arg3
decreases-join_mut+arg3 g l = length l.back.now

abbrev pub decreases-run_each : goal.decreases-run_each
decreases-run_each g l = length l.all.now
