-- The ranks of the places met so far.
use Rattle.history_coherence.specs.inner.Ranks.{AreRanksOf}
use Rattle.history_coherence.proofs.rank.rank_log.Given as goal

abbrev pub invariant-loop-place : goal.invariant-loop-place
invariant-loop-place l = AreRanksOf l.log l.keys l.marks l.place l.ranks.items
