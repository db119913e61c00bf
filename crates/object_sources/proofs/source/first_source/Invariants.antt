-- The first of those so far.
use Rattle.object_sources.specs.inner.Firsts.{IsFirstBelow}
use Rattle.object_sources.proofs.source.first_source.Given as goal

abbrev pub invariant-loop-at : goal.invariant-loop-at
invariant-loop-at l = IsFirstBelow l.log l.value l.at l.first
