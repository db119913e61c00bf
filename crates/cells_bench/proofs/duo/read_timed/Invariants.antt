-- Each call leaves the pass one of this cell.
use Rattle.cells_bench.proofs.duo.read_timed.Given as goal

abbrev pub invariant-loop : goal.invariant-loop
invariant-loop g l = g.C.Calls.is_get l.cell l.get
