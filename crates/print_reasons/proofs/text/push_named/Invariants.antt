-- What was printed so far stands before what the rest gives, and each line took a code of the text at least.
use Rattle.std.proofs.Common.{◌≡◌, ◌+◌, ◌≤◌, ◌++◌, length, map}
use Rattle.text_lines.specs.Splits.{lines_of}
use Rattle.text_lines.specs.Words.{told}
use Rattle.print_reasons.specs.Text.{named_text}
use Rattle.print_reasons.proofs.text.push_named.Given as goal

abbrev pub invariant-lines : goal.invariant-lines
invariant-lines l = record {
  printed : l.text.items ++ named_text l.ops l.places l.named l.next l.place (map (told l.log.packed) (lines_of l.rest))
      ≡ l.initial.text.items ++ named_text l.ops l.places l.named 0 0 (map (told l.log.packed) (lines_of l.body));
  room : l.place + length l.rest ≤ length l.body;
}

abbrev pub decreases-lines : goal.decreases-lines
decreases-lines l = length l.rest
