-- Each turn prints one blank and one line behind what was printed before.
use Rattle.std.proofs.Common.{◌≡◌, ◌++◌, take}
use Rattle.print_reasons.specs.Text.{place_lines}
use Rattle.print_reasons.proofs.text.push_place_lines.Given as goal

abbrev pub invariant-loop-place : goal.invariant-loop-place
invariant-loop-place l = l.text.items ≡ l.initial.text.items ++ place_lines (take l.place-index l.places)
