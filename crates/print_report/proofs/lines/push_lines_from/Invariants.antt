-- Each turn moves one line from those that are left to those printed, so both together stay the same.
use Rattle.std.proofs.Common.{◌≡◌, ◌++◌}
use Rattle.print_report.specs.Lines.{lines_from}
use Rattle.print_report.proofs.lines.push_lines_from.Given as goal

abbrev pub invariant-loop-place : goal.invariant-loop-place
invariant-loop-place g l =
    l.text.items ++ lines_from (g.M.Marks.mark l.marks) l.ops l.place
    ≡ l.fn.text.items ++ lines_from (g.M.Marks.mark l.marks) l.ops l.fn.from
