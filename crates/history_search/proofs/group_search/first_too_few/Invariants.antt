-- The writes met so far are counted, and no refused write was met.
use Rattle.std.proofs.Common.{◌≡◌, ◌≤◌, take, true}
use Rattle.history_core.specs.Orders.{writes_in}
use Rattle.history_search.specs.inner.Limits.{NoneRefused}
use Rattle.history_search.proofs.group_search.first_too_few.Given as goal

abbrev pub invariant-loop-i : goal.invariant-loop-i
invariant-loop-i g l = record {
  none : NoneRefused l.ops l.order l.i;
  counted : l.writes ≡ writes_in (λ _. true) l.ops (take l.i l.order);
  few : l.writes ≤ l.i;
}
