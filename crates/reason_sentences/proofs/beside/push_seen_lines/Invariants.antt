-- Each turn prints one blank and one line behind what was printed before.
use Rattle.std.proofs.Common.{◌≡◌, ◌++◌, take}
use Rattle.reason_sentences.specs.Beside.{seen_lines}
use Rattle.reason_sentences.proofs.beside.push_seen_lines.Given as goal

abbrev pub invariant-loop-kept : goal.invariant-loop-kept
invariant-loop-kept l = l.text.items ≡ l.initial.text.items ++ seen_lines l.places (take l.kept-index l.seen)
