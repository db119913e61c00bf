-- Each call leaves the pass one of this cell.
use Rattle.cells_bench.proofs.paced.WriterSide.run.Given as goal

abbrev pub invariant-loop-number : goal.invariant-loop-number
invariant-loop-number g l = g.C.Calls.is_put l.self.cell.now l.self.put
