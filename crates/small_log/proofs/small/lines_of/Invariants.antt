-- What was found so far is the lines of the named ones of the first operations.
use Rattle.std.proofs.Common.{◌≡◌}
use Rattle.small_log.specs.Small.{lines_of}
use Rattle.small_log.proofs.small.lines_of.Given as goal

abbrev pub invariant-loop-place : goal.invariant-loop-place
invariant-loop-place l = l.lines.items ≡ lines_of l.ops l.named l.places l.place
