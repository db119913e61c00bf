-- The last count written is at most the next one, so the next one rises from it.
use Rattle.std.proofs.Common.{◌≤◌, ◌+◌}
use Rattle.cell_contract.specs.Running.{last_or}
use Rattle.test_cells.proofs.counts.write_up_to.Given as goal

abbrev pub invariant-loop-i : goal.invariant-loop-i
invariant-loop-i g l = g.C.Calls.is_put l.cell l.put × ((last_or (g.C.Calls.opening l.cell) (g.C.Calls.written l.put)).0 ≤ l.i + 1)
