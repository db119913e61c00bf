-- The line that is asked for lies so many lines ahead.
use Rattle.std.proofs.Common.{◌≡◌, length}
use Rattle.std.specs.Prelude.{slice_get}
use Rattle.text_lines.specs.Splits.{lines_of}
use Rattle.record_words.proofs.line.nth_line.Given as goal

abbrev pub invariant-lines : goal.invariant-lines
invariant-lines l = slice_get (lines_of l.rest) l.left ≡ slice_get (lines_of l.bytes) l.index

abbrev pub decreases-lines : goal.decreases-lines
decreases-lines l = length l.rest
