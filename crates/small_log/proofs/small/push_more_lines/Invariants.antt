-- Each turn prints one line behind what was printed before.
use Rattle.std.proofs.Common.{◌≡◌, ◌++◌, take}
use Rattle.std.specs.Prelude.{codes}
use Rattle.std.specs.List.{flat_map}
use Rattle.reason_sentences.specs.Numbers.{number_text}
use Rattle.small_log.proofs.small.push_more_lines.Given as goal

abbrev pub invariant-loop-line : goal.invariant-loop-line
invariant-loop-line l = l.text.items ≡ l.initial.text.items ++ flat_map (number_text (codes ",")) (take l.line-index l.lines)
