-- Those of the lines so far.
use Rattle.std.proofs.Common.{◌≡◌, take}
use Rattle.record_words.specs.Origins.{lines_with}
use Rattle.record_words.proofs.origins.lines_with.Given as goal

abbrev pub invariant-loop-line : goal.invariant-loop-line
invariant-loop-line l = l.found.items ≡ lines_with (take l.line-index l.lines) l.place l.word
