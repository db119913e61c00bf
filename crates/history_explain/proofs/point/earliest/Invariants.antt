-- Each turn moves one point from those that are left to those that are made, so both together stay the same.
use Rattle.std.proofs.Common.{◌≡◌, ◌++◌, drop}
use Rattle.history_explain.specs.inner.Earliest.{earliest}
use Rattle.history_explain.proofs.point.earliest.Given as goal

abbrev pub invariant-loop-i : goal.invariant-loop-i
invariant-loop-i g l = l.points.items ++ earliest l.ops l.latest (drop l.i l.order) ≡ earliest l.ops 0 l.order
