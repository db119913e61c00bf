-- The header's words, and those of the places so far.
use Rattle.std.proofs.Common.{◌≡◌, take}
use Rattle.text_lines.specs.Words.{text_in}
use Rattle.record_words.specs.Origins.{all_words}
use Rattle.record_words.proofs.line.all_words.Given as goal

abbrev pub invariant-loop-place : goal.invariant-loop-place
invariant-loop-place l = l.lines.items ≡ all_words (text_in l.packed) l.opening (take l.place-index l.places)
