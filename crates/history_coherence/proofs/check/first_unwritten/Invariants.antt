-- None of those met so far lacks a source.
use Rattle.std.proofs.Common.{◌≡◌, ◌<◌, ℕ, false, slice_get, Some}
use Rattle.history_core.specs.declared.history.Op.{Op}
use Rattle.history_coherence.specs.inner.Keys.{lacks_source}
use Rattle.history_coherence.proofs.check.first_unwritten.Given as goal

abbrev pub invariant-loop-place : goal.invariant-loop-place
invariant-loop-place l = (p : ℕ) (o : Op ℕ) → p < l.place → slice_get l.log p ≡ Some o → lacks_source l.written o ≡ false
