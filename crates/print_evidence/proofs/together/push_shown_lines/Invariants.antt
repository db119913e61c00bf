-- Each turn prints one line behind what was printed before.
use Rattle.std.proofs.Common.{◌≡◌, ◌++◌, take}
use Rattle.text_lines.specs.Words.{text_in}
use Rattle.print_evidence.specs.Together.{shown_lines}
use Rattle.print_evidence.proofs.together.push_shown_lines.Given as goal

abbrev pub invariant-loop-place : goal.invariant-loop-place
invariant-loop-place l = l.text.items ≡ l.initial.text.items ++ shown_lines (text_in l.log) (take l.place-index l.places)
