-- One value more than numbers met so far.
use Rattle.std.proofs.Common.{◌≡◌, ◌+◌, replicate}
use Rattle.history_coherence.proofs.key.blank.Given as goal

abbrev pub invariant-loop : goal.invariant-loop
invariant-loop g l = l.values.items ≡ replicate (l.counter + 1) l.value
