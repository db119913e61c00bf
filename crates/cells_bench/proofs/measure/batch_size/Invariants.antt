-- Each batch leaves what is called ready for the next.
use Rattle.cells_bench.proofs.measure.batch_size.Given as goal

abbrev pub invariant-loop : goal.invariant-loop
invariant-loop g l = g.B.Batch.ready l.called
