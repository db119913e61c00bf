-- The handles before this one have no side.
use Rattle.std.proofs.Common.{◌≡◌, ℕ, ◌<◌}
use Rattle.std.specs.Prelude.{slice_get, Some}
use Rattle.c_boards.proofs.makes.any_live.Given as goal

abbrev pub invariant-loop-k : goal.invariant-loop-k
invariant-loop-k g l = (j : ℕ) (h : g.row.H.Denot) → j < l.k → slice_get l.fn.handles j ≡ Some h → g.H.Hand.live h ≡ 0
