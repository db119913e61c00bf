-- Each turn moves one line from those that are left to those printed, so both together stay the same.
use Rattle.std.proofs.Common.{◌≡◌, ◌++◌, drop}
use Rattle.print_report.specs.Text.{task_lines}
use Rattle.print_report.proofs.races.push_tasks.Given as goal

abbrev pub invariant-loop-task : goal.invariant-loop-task
invariant-loop-task l = l.text.items ++ task_lines l.task (drop l.task l.tasks) ≡ l.fn.text.items ++ task_lines 0 l.tasks
