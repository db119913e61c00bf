-- The last place of each number met so far, and the places before.
use Rattle.history_coherence.specs.inner.Keys.{ArePrevious}
use Rattle.history_coherence.proofs.Tables.{KnowsLast}
use Rattle.history_coherence.proofs.previous.previous_places.Given as goal

abbrev pub invariant-loop-place : goal.invariant-loop-place
invariant-loop-place l = record {
  last : KnowsLast l.numbers l.place l.last;
  previous : ArePrevious l.numbers l.place l.previous.items;
}
