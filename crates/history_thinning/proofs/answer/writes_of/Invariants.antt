-- The writes among the entries met so far.
use Rattle.history_thinning.specs.inner.Mapped.{AreWritePlaces}
use Rattle.history_thinning.proofs.answer.writes_of.Given as goal

abbrev pub invariant-loop-kept : goal.invariant-loop-kept
invariant-loop-kept l = AreWritePlaces l.ops l.places l.order l.kept-index l.writes.items
