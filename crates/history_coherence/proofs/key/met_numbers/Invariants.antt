-- The numbers met so far.
use Rattle.std.proofs.Common.{◌≡◌, ◌+◌, length}
use Rattle.history_coherence.specs.inner.Keys.{AreMet}
use Rattle.history_coherence.proofs.key.met_numbers.Given as goal

abbrev pub invariant-loop-place : goal.invariant-loop-place
invariant-loop-place l = record { met : AreMet l.numbers l.place l.met.items; long : length l.met.items ≡ l.greatest + 1 }
