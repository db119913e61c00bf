-- The links lead from the record that was met to the one at hand, which doesn't stand before it on the path.
use Rattle.std.proofs.Common.{◌≡◌, ◌<◌, ◌≤◌, ℕ, length, get_or, slice_get, Some}
use Rattle.history_coherence.specs.inner.Walks.{IsTrail}
use Rattle.history_coherence.proofs.trail.circle_at.Given as goal

abbrev pub invariant-records : goal.invariant-records
invariant-records l = record {
  within : l.i < length l.walk.path.items;
  ahead : (j : ℕ) × (j ≤ l.i) × (slice_get l.walk.path.items j ≡ Some l.met);
  trail : IsTrail l.tables.keys.items l.tables.earlier.items l.links.items l.met (get_or l.walk.path.items l.i 0);
}

abbrev pub decreases-records : goal.decreases-records
decreases-records l = l.i
