-- The end so far, carried on over the ranks that are left, is that of all.
use Rattle.std.proofs.Common.{◌≡◌, None, drop}
use Rattle.history_search.specs.inner.Found.{cut_by}
use Rattle.history_search.specs.inner.Groups.{spans_in}
use Rattle.history_search.specs.inner.Ranks.{ranks_in}
use Rattle.history_search.proofs.cut.late_end.Given as goal

abbrev pub invariant-loop-place : goal.invariant-loop-place
invariant-loop-place g l =
    cut_by (spans_in l.ops l.spans) None (ranks_in l.ops l.groups (spans_in l.ops l.spans) None l.places)
    ≡ cut_by (spans_in l.ops l.spans) l.end (ranks_in l.ops l.groups (spans_in l.ops l.spans) None (drop l.place-index l.places))
