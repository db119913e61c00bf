-- Each call leaves the passes those of this cell.
use Rattle.cells_bench.proofs.solo.round.Given as goal

abbrev pub invariant-loop-number : goal.invariant-loop-number
invariant-loop-number g l = g.C.Calls.is_put l.cell l.put × g.C.Calls.is_get l.cell l.get
