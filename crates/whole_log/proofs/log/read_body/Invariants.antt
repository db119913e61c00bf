-- The lines so far were read, and each took a byte of the text at least.
use Rattle.std.proofs.Common.{◌≡◌, ℕ, List, [], length}
use Rattle.text_lines.specs.Words.{told}
use Rattle.text_lines.specs.Splits.{lines_of}
use Rattle.whole_log.specs.inner.WholeReadings.{AreWholeRead, IsWholeSoFar, whole_rule}
use Rattle.whole_log.proofs.log.read_body.Given as goal

abbrev pub invariant-lines : goal.invariant-lines
invariant-lines l = record {
  way : (opening : List ℕ) → AreWholeRead opening [] l.initial.reader →
      IsWholeSoFar opening (whole_rule l.initial.reader) l.ended
      (lines_of (told l.text.packed l.body)) (told l.text.packed l.rest) l.reader;
  limits : whole_rule l.reader ≡ whole_rule l.initial.reader;
}

abbrev pub decreases-lines : goal.decreases-lines
decreases-lines l = length l.rest
