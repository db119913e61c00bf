-- None of those met so far has an operation that ends then.
use Rattle.std.proofs.Common.{◌≡◌, ℕ, ◌<◌, slice_get, Some}
use Rattle.object_watch.specs.declared.remainder.Remainder.{Remainder}
use Rattle.object_watch.specs.inner.Levels.{IsEndingAt}
use Rattle.object_watch.proofs.ends.ending_in.Given as goal

abbrev pub invariant-loop-one : goal.invariant-loop-one
invariant-loop-one g l = (i p : ℕ) (one : Remainder g.row.O.Denot g.row.W.Denot) → i < l.one-index → slice_get l.held i ≡ Some one →
    ¬ IsEndingAt one.rest.items l.at p
