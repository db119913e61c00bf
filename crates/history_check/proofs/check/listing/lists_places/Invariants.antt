-- The entries met so far are places.
use Rattle.std.proofs.Common.{ℕ, ◌<◌, length, get_or}
use Rattle.history_check.proofs.check.listing.lists_places.Given as goal

abbrev pub invariant-loop-place : goal.invariant-loop-place
invariant-loop-place g l = (k : ℕ) → k < l.place-index → get_or l.order k 0 < length l.ops
