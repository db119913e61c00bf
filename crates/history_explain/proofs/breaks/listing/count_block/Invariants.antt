-- The counts are those of the entries met so far.
use Rattle.std.proofs.Common.{◌≡◌, ℕ, ◌+◌, ◌<◌, take, length, get_or}
use Rattle.history_core.specs.Orders.{times_of}
use Rattle.history_explain.proofs.breaks.listing.count_block.Given as goal

abbrev pub invariant-loop-place : goal.invariant-loop-place
invariant-loop-place l = record {
  long : length l.counts ≡ length l.fn.counts;
  counted : (k : ℕ) → k < length l.counts → get_or l.counts k 0 ≡ times_of (l.base + k) (take l.place-index l.order);
}
