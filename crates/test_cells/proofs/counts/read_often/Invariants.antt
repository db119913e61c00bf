-- A read leaves the pass one of this cell.
use Rattle.test_cells.proofs.counts.read_often.Given as goal

abbrev pub invariant-loop : goal.invariant-loop
invariant-loop g l = g.C.Calls.is_get l.cell l.get
