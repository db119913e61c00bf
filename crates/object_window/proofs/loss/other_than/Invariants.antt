-- All numbers so far are among them.
use Rattle.std.proofs.Common.{◌≡◌, ℕ, ◌<◌, true}
use Rattle.object_sweep.specs.Reached.{is_in}
use Rattle.object_window.proofs.loss.other_than.Given as goal

abbrev pub invariant-loop-n : goal.invariant-loop-n
invariant-loop-n l = (m : ℕ) → m < l.n → is_in m l.records ≡ true
