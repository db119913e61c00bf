-- What was read of the keys so far is given.
use Rattle.keys_log.specs.inner.KeyReadings.{AreFinished}
use Rattle.keys_log.proofs.keys.finish_all.Given as goal

abbrev pub invariant-readers : goal.invariant-readers
invariant-readers l = AreFinished l.limit l.ended l.yielded l.logs.items
