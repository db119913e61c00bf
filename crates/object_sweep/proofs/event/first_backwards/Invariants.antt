-- Those met so far run forwards.
use Rattle.std.proofs.Common.{◌≡◌, ℕ, ◌<◌, ◌≤◌, slice_get, Some}
use Rattle.object_core.specs.declared.operation.Operation.{Operation}
use Rattle.object_sweep.proofs.event.first_backwards.Given as goal

abbrev pub invariant-loop-place : goal.invariant-loop-place
invariant-loop-place g l =
    (p end : ℕ) (o : Operation g.row.W.Denot) → p < l.place → slice_get l.log p ≡ Some o → o.ends ≡ Some end → o.starts ≤ end
