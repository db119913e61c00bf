-- The entries met so far are places.
use Rattle.std.proofs.Common.{ℕ, ◌<◌, length, get_or}
use Rattle.history_explain.proofs.breaks.listing.no_place.Given as goal

abbrev pub invariant-loop-entry : goal.invariant-loop-entry
invariant-loop-entry g l = (k : ℕ) → k < l.entry → get_or l.order k 0 < length l.ops
