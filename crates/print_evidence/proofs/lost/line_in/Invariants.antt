-- What is left are the lines from the place on.
use Rattle.std.proofs.Common.{◌≡◌, drop}
use Rattle.text_lines.specs.Splits.{lines_of}
use Rattle.print_reasons.specs.Text.{body_of}
use Rattle.print_evidence.proofs.lost.line_in.Given as goal

abbrev pub invariant-loop-behind : goal.invariant-loop-behind
invariant-loop-behind l = lines_of l.rest ≡ drop l.behind (body_of l.bytes)
