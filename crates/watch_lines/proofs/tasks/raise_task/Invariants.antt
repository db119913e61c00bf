-- Those passed have the floor.
use Rattle.std.proofs.Common.{◌≡◌}
use Rattle.watch_lines.specs.Tasks.{task_with}
use Rattle.watch_lines.proofs.TaskLemmas.{changed_to}
use Rattle.watch_lines.proofs.tasks.raise_task.Given as goal

abbrev pub invariant-loop-i : goal.invariant-loop-i
invariant-loop-i l = l.tasks.items ≡ changed_to (task_with l.who l.at l.line) l.i l.fn.tasks.items
