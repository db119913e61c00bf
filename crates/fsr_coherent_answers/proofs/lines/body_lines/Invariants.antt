-- The lines so far, and those that are left.
use Rattle.std.proofs.Common.{◌≡◌, ◌++◌, length, map}
use Rattle.print_reasons.specs.Text.{body_of}
use Rattle.text_lines.specs.Splits.{lines_of}
use Rattle.fsr_coherent_answers.proofs.lines.body_lines.Given as goal

abbrev pub invariant-lines : goal.invariant-lines
invariant-lines l = body_of l.codes ≡ map (λ line. line.now) l.lines.items ++ lines_of l.rest

abbrev pub decreases-lines : goal.decreases-lines
decreases-lines l = length l.rest
