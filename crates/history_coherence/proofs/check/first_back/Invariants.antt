-- None of those met so far has the opening behind another record.
use Rattle.std.proofs.Common.{◌≡◌, ◌<◌, ℕ, false}
use Rattle.history_coherence.specs.inner.Keys.{edge_at, is_back}
use Rattle.history_coherence.proofs.check.first_back.Given as goal

abbrev pub invariant-loop-place : goal.invariant-loop-place
invariant-loop-place l = (q : ℕ) → q < l.place → is_back (edge_at l.tables.keys.items l.tables.earlier.items q) ≡ false
