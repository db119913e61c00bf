-- Each turn prints the lines up to the next term and that term's line, so printed and left together stay the same.
use Rattle.std.proofs.Common.{◌≡◌, ◌+◌, ◌++◌, drop}
use Rattle.print_report.specs.Text.{titled_lines}
use Rattle.print_report.proofs.titled.push_titled_lines.Given as goal

abbrev pub invariant-loop-k : goal.invariant-loop-k
invariant-loop-k g l =
    l.text.items ++ titled_lines (g.M.Marks.mark l.marks) l.ops (l.k + 1) l.place (drop l.k l.terms)
    ≡ l.fn.text.items ++ titled_lines (g.M.Marks.mark l.marks) l.ops 1 0 l.terms
