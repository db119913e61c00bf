-- The operations of the blocks met so far stand as often as they may.
use Rattle.std.proofs.Common.{◌*◌}
use Rattle.history_core.specs.Orders.{EachStands}
use Rattle.history_explain.proofs.breaks.listing.miscounted.Given as goal

abbrev pub invariant-loop-block : goal.invariant-loop-block
invariant-loop-block g l = EachStands l.ops l.order 0 (l.block * 4096)
