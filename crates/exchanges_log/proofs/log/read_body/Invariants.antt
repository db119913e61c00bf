-- The lines so far were read, and each took a byte of the text at least.
use Rattle.std.proofs.Common.{◌≡◌, ◌+◌, ◌≤◌, ℕ, List, [], length}
use Rattle.text_lines.specs.Words.{told}
use Rattle.text_lines.specs.Splits.{lines_of}
use Rattle.exchanges_log.specs.inner.ExchangeReadings.{AreExchangesRead, IsBodyReadSoFar, rule_of}
use Rattle.exchanges_log.proofs.log.read_body.Given as goal

abbrev pub invariant-lines : goal.invariant-lines
invariant-lines l = record {
  way : (opening : List ℕ) → AreExchangesRead opening [] l.initial.reader →
      IsBodyReadSoFar opening (rule_of l.initial.reader) l.ended
      (lines_of (told l.text.packed l.body)) (told l.text.packed l.rest) l.reader;
  key : rule_of l.reader ≡ rule_of l.initial.reader;
  room : length l.reader.ops.items + length l.rest ≤ length l.initial.reader.ops.items + length l.body;
}

abbrev pub decreases-lines : goal.decreases-lines
decreases-lines l = length l.rest
