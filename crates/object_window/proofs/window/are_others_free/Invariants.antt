-- The others met so far need not be there.
use Rattle.std.proofs.Common.{◌≡◌, ℕ, ◌<◌, false, slice_get, Some}
use Rattle.object_core.specs.declared.operation.Operation.{Operation}
use Rattle.object_registers.specs.declared.exchanging.Exchange.{Exchange}
use Rattle.object_sweep.specs.Reached.{is_in}
use Rattle.object_window.specs.Windows.{NeedNotBeThere}
use Rattle.object_window.proofs.window.are_others_free.Given as goal

abbrev pub invariant-loop-q : goal.invariant-loop-q
invariant-loop-q l =
    (p : ℕ) (o : Operation Exchange) → p < l.q → slice_get l.log p ≡ Some o → is_in p l.places ≡ false →
    NeedNotBeThere l.first l.last l.little o
