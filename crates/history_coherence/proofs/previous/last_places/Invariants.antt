-- The last places met so far.
use Rattle.std.proofs.Common.{◌≡◌, ◌+◌, length}
use Rattle.history_coherence.specs.inner.Keys.{AreLast}
use Rattle.history_coherence.proofs.previous.last_places.Given as goal

abbrev pub invariant-loop-place : goal.invariant-loop-place
invariant-loop-place l = record { last : AreLast l.numbers l.place l.last.items; long : length l.last.items ≡ l.greatest + 1 }
