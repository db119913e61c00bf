-- The lines so far were read, and each took a byte of the text at least.
use Rattle.std.proofs.Common.{◌+◌, ◌≤◌, [], length}
use Rattle.read_line.specs.Lines.{Head}
use Rattle.lines_log.specs.Logs.{first_key}
use Rattle.keys_log.specs.inner.KeyReadings.{AreKeysRead, ArePartlyRead}
use Rattle.text_lines.specs.Words.{told}
use Rattle.text_lines.specs.Splits.{lines_of}
use Rattle.keys_log.proofs.keys.read_body.Given as goal

abbrev pub invariant-lines : goal.invariant-lines
invariant-lines l = record {
  way : (head : Head) → AreKeysRead head (first_key (lines_of (told l.text.packed l.body))) [] l.initial.reader →
      ArePartlyRead head (lines_of (told l.text.packed l.body)) l.ended (told l.text.packed l.rest) l.reader;
  room : l.reader.count + length l.rest ≤ l.initial.reader.count + length l.body;
}

abbrev pub decreases-lines : goal.decreases-lines
decreases-lines l = length l.rest
