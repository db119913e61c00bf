-- No operation met so far ends before its point.
use Rattle.std.proofs.Common.{ℕ, ◌<◌, get_or}
use Rattle.history_explain.specs.inner.Earliest.{IsReached}
use Rattle.history_explain.proofs.point.are_reached.Given as goal

abbrev pub invariant-loop-i : goal.invariant-loop-i
invariant-loop-i g l = (k : ℕ) → k < l.i → IsReached l.ops (get_or l.order k 0) (get_or l.points k 0)
