-- What a turn prints is the first of the lines that are left.
use Rattle.std.proofs.Common.{◌≡◌, ◌<◌, ◌+◌, ◌++◌, ◌∙◌, ℕ, List, ap, append_assoc, drop, get_or, length, sym}
use Rattle.std.proofs.lemmas.List.{drop_more}
use Rattle.print_report.specs.declared.report.Counts.{Counts}
use Rattle.print_report.specs.Text.{task_line, task_lines}
use Rattle.print_report.proofs.races.push_tasks.Goals as goal

one_task : (tasks : List Counts) (task : ℕ) (default : Counts) (line old new whole : List ℕ) → task < length tasks → new ≡ old ++ line →
    line ≡ task_line task (get_or tasks task default) → old ++ task_lines task (drop task tasks) ≡ whole →
    new ++ task_lines (task + 1) (drop (task + 1) tasks) ≡ whole
one_task tasks task default line old new whole lt is line_is was =
    ap (λ text. text ++ task_lines (task + 1) (drop (task + 1) tasks)) (is ∙ ap (λ z. old ++ z) line_is)
    ∙ append_assoc old (task_line task (get_or tasks task default)) (task_lines (task + 1) (drop (task + 1) tasks))
    ∙ ap (λ rest. old ++ task_lines task rest)
    (sym (drop_more tasks task default lt))
    ∙ was

pub loop-task-preserved : goal.loop-task-preserved
loop-task-preserved c =
    one_task c.args.tasks.now c.loop-task.task _ c.as_bytes.result.now c.loop-task.text.items c.extend_from_slice.new.self.items _
    c.loop-task-test.true c.in_ok-extend_from_slice.ensures.items (c.as_bytes.ensures ∙ c.put_task.ensures) c.loop-task.invariant
