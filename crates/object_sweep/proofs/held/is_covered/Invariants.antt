-- None of those met so far can do all of it.
use Rattle.std.proofs.Common.{◌≡◌, ℕ, ◌<◌, slice_get, Some}
use Rattle.object_sweep.specs.declared.configuration.Configuration.{Configuration}
use Rattle.object_sweep.specs.inner.Steps.{Covers, sure_at}
use Rattle.object_sweep.proofs.held.is_covered.Given as goal

abbrev pub invariant-loop-one : goal.invariant-loop-one
invariant-loop-one g l = (j : ℕ) (one : Configuration g.row.O.Denot) → j < l.one-index → slice_get l.held j ≡ Some one →
    ¬ Covers (sure_at l.log) one l.sought.state l.sought.placed.items
