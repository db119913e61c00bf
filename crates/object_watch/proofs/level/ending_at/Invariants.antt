-- None of those met so far ends then.
use Rattle.std.proofs.Common.{ℕ, ◌<◌}
use Rattle.object_watch.specs.inner.Levels.{IsEndingAt}
use Rattle.object_watch.proofs.level.ending_at.Given as goal

abbrev pub invariant-loop-place : goal.invariant-loop-place
invariant-loop-place g l = (p : ℕ) → p < l.place → ¬ IsEndingAt l.rest l.end p
