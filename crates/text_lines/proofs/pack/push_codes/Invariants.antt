-- The codes so far stand for the front, and the rest stands behind it.
use Rattle.std.proofs.Common.{◌≡◌, ◌++◌, true, length}
use Rattle.text_lines.specs.Words.{told}
use Rattle.text_lines.proofs.pack.push_codes.Given as goal

abbrev pub invariant-bytes : goal.invariant-bytes
invariant-bytes l = told true l.codes.items ++ l.rest ≡ told true l.initial.codes.items ++ l.bytes

abbrev pub decreases-bytes : goal.decreases-bytes
decreases-bytes l = length l.rest
