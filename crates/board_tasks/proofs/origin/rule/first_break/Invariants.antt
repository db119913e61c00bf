-- The logs of the tasks so far keep the rule.
use Rattle.std.proofs.Common.{map}
use Rattle.board_tasks.specs.Origins.{TasksKeep}
use Rattle.board_tasks.proofs.origin.rule.first_break.Given as goal

abbrev pub invariant-loop-task : goal.invariant-loop-task
invariant-loop-task g l = TasksKeep (g.U.Rule.rule l.rule) (map g.L.HasLog.logged l.logs) l.task
