-- None of those met so far is a write of a record that its task had before.
use Rattle.std.proofs.Common.{◌≡◌, ◌<◌, ℕ, false, slice_get, Some}
use Rattle.history_core.specs.declared.history.Op.{Op}
use Rattle.history_coherence.specs.inner.Keys.{edge_at, is_ahead}
use Rattle.history_coherence.proofs.check.first_ahead.Given as goal

abbrev pub invariant-loop-place : goal.invariant-loop-place
invariant-loop-place l = (q : ℕ) (o : Op ℕ) → q < l.place → slice_get l.log q ≡ Some o →
    is_ahead o (edge_at l.tables.keys.items l.tables.earlier.items q) ≡ false
