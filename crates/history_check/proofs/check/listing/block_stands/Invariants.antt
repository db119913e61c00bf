-- The marks count the entries met so far; and the operations met so far stand as often as they may.
use Rattle.std.proofs.Common.{◌≡◌, ℕ, ◌+◌, ◌<◌, take, length}
use Rattle.history_core.specs.Orders.{EachStands, times_of}
use Rattle.history_check.specs.inner.Marks.{times_marked}
use Rattle.history_check.proofs.check.listing.block_stands.Given as goal

abbrev pub invariant-loop-place : goal.invariant-loop-place
invariant-loop-place g l = record {
  long : length l.seen ≡ length l.fn.seen;
  counted : (k : ℕ) → k < length l.seen → times_of (l.base + k) (take l.place-index l.order) ≡ times_marked l.seen k;
}

abbrev pub invariant-loop-at : goal.invariant-loop-at
invariant-loop-at g l = EachStands l.ops l.order l.base (l.base + l.at)
