-- The entries met so far have the latest record, and the one after them is known.
use Rattle.std.proofs.Common.{◌≡◌, take, Some, IsTrue}
use Rattle.history_core.specs.Orders.{latest}
use Rattle.history_check.proofs.Forwards.{ReadsUpTo}
use Rattle.history_check.proofs.check.reading.reads_latest.Given as goal

abbrev pub invariant-loop-place : goal.invariant-loop-place
invariant-loop-place g l = record {
  reads : ReadsUpTo (λ x y. IsTrue (g.R.PartialEq.eq x y)) l.fn.opening l.ops l.order l.place-index;
  held : latest l.fn.opening l.ops (take l.place-index l.order) ≡ Some l.latest;
}
