-- What was told so far is the first operations.
use Rattle.std.proofs.Common.{◌≡◌}
use Rattle.small_log.specs.Small.{told_of}
use Rattle.small_log.proofs.told.told_ops.Given as goal

abbrev pub invariant-loop-place : goal.invariant-loop-place
invariant-loop-place l = l.told.items ≡ told_of l.lines l.ops l.place
