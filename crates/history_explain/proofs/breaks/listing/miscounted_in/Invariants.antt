-- The operations met so far stand as often as they may.
use Rattle.std.proofs.Common.{◌+◌}
use Rattle.history_core.specs.Orders.{EachStands}
use Rattle.history_explain.proofs.breaks.listing.miscounted_in.Given as goal

abbrev pub invariant-loop-at : goal.invariant-loop-at
invariant-loop-at g l = EachStands l.ops l.order 0 (l.base + l.at)
