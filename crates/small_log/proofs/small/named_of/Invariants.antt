-- What was found so far is the named ones of the first operations.
use Rattle.std.proofs.Common.{◌≡◌}
use Rattle.small_log.specs.Small.{named_of}
use Rattle.small_log.proofs.small.named_of.Given as goal

abbrev pub invariant-loop-place : goal.invariant-loop-place
invariant-loop-place l = l.found.items ≡ named_of l.ops l.named l.place
