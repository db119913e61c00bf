-- The written records met so far are known, each once and none the opening.
use Rattle.std.specs.Prelude.{IsTrue}
use Rattle.history_search.specs.inner.Groups.{KnowsWrites}
use Rattle.history_core.specs.Searches.{WritesOnce}
use Rattle.history_search.proofs.group.group_writes.Given as goal

abbrev pub invariant-loop-place : goal.invariant-loop-place
invariant-loop-place g l = record {
  known : KnowsWrites g.R.Ord.cmp l.ops l.place l.writes;
  once : WritesOnce (λ x y. IsTrue (g.R.PartialEq.eq x y)) l.opening l.ops l.place;
}
