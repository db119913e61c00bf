-- The entries met so far have the latest record; the one after them and its write are known.
use Rattle.std.proofs.Common.{◌≡◌, take, Some, IsTrue}
use Rattle.history_explain.specs.Breaks.{IsLastWrite}
use Rattle.history_core.specs.Orders.{latest}
use Rattle.history_check.proofs.Forwards.{ReadsUpTo}
use Rattle.history_explain.proofs.breaks.reading.reading_break.Given as goal

abbrev pub invariant-loop-entry : goal.invariant-loop-entry
invariant-loop-entry g l = record {
  reads : ReadsUpTo (λ x y. IsTrue (g.R.PartialEq.eq x y)) l.fn.opening l.ops l.order l.entry;
  held : latest l.fn.opening l.ops (take l.entry l.order) ≡ Some l.held.latest;
  last : IsLastWrite l.ops l.order l.entry l.held.write;
}
