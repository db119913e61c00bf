-- The records that those met so far ask for.
use Rattle.std.proofs.Common.{◌≡◌, ℕ, ◌<◌, true, slice_get, Some}
use Rattle.object_core.specs.declared.operation.Operation.{Operation}
use Rattle.object_registers.specs.declared.exchanging.Exchange.{Exchange}
use Rattle.object_sweep.specs.Reached.{is_in}
use Rattle.object_window.specs.Losses.{asked_of}
use Rattle.object_window.proofs.loss.asked_in.Given as goal

abbrev pub invariant-loop-place : goal.invariant-loop-place
invariant-loop-place l =
    (i value : ℕ) (o : Operation Exchange) → i < l.place → slice_get l.log i ≡ Some o → asked_of o.what ≡ Some value →
    is_in value l.records.items ≡ true
