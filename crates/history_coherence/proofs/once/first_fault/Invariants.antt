-- The records met so far are written once.
use Rattle.history_core.specs.Searches.{WritesOnce}
use Rattle.history_thinning.specs.Thinnings.{Equal}
use Rattle.history_coherence.proofs.once.first_fault.Given as goal

abbrev pub invariant-loop-place : goal.invariant-loop-place
invariant-loop-place l = WritesOnce Equal 0 l.log l.place
