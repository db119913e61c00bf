-- From none of the records met so far the log has a lawful order.
use Rattle.std.proofs.Common.{◌≡◌, ℕ, ◌<◌, slice_get, Some}
use Rattle.object_core.specs.Logs.{IsLinearizable}
use Rattle.object_registers.specs.Registers.{exchanging_after}
use Rattle.object_window.specs.Losses.{holding}
use Rattle.object_window.proofs.loss.loss_from.Given as goal

abbrev pub invariant-loop-i : goal.invariant-loop-i
invariant-loop-i l =
    (j value : ℕ) → j < l.i → slice_get l.openings j ≡ Some value → ¬ IsLinearizable exchanging_after (holding value) l.log
