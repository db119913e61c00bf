-- The places met so far whose groups stand have their ranks.
use Rattle.history_search.specs.inner.Groups.{spans_in}
use Rattle.history_search.specs.inner.Ranks.{AreRanks, ranks_in}
use Rattle.history_search.proofs.rank.rank_ops.Given as goal

abbrev pub invariant-loop-place : goal.invariant-loop-place
invariant-loop-place g l =
    AreRanks l.ops l.groups (spans_in l.ops l.spans) l.cut l.place (ranks_in l.ops l.groups (spans_in l.ops l.spans) l.cut l.places.items)
