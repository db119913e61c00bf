-- The groups of the operations met so far.
use Rattle.std.proofs.Common.{◌≡◌, map, take}
use Rattle.history_search.specs.inner.Groups.{group_in}
use Rattle.history_search.proofs.group.group_ops.Given as goal

abbrev pub invariant-loop-op : goal.invariant-loop-op
invariant-loop-op g l = l.groups.items
    ≡ map (λ o. group_in g.R.PartialEq.eq g.R.Ord.cmp l.opening l.writes o) (take l.op-index l.ops)
