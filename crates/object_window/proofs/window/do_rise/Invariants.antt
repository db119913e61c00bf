-- Those met so far rise.
use Rattle.std.proofs.Common.{ℕ, ◌+◌, ◌<◌}
use Rattle.object_window.specs.inner.Parts.{IsLessAt}
use Rattle.object_window.proofs.window.do_rise.Given as goal

abbrev pub invariant-loop-i : goal.invariant-loop-i
invariant-loop-i l = (j : ℕ) → j + 1 < l.i → IsLessAt l.places j (j + 1)
