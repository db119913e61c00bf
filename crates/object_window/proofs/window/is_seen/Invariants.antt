-- None of those met so far looks at it.
use Rattle.std.proofs.Common.{◌≡◌, ℕ, ◌<◌, slice_get, Some}
use Rattle.object_core.specs.declared.operation.Operation.{Operation}
use Rattle.object_registers.specs.declared.exchanging.Exchange.{Exchange}
use Rattle.object_window.specs.Windows.{LooksAt}
use Rattle.object_window.proofs.window.is_seen.Given as goal

abbrev pub invariant-loop-i : goal.invariant-loop-i
invariant-loop-i l = (j : ℕ) (o : Operation Exchange) → j < l.i → slice_get l.log j ≡ Some o → ¬ LooksAt l.value o.what
