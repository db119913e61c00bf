-- The last record written has the number of turns passed, so the next one rises from it.
use Rattle.std.proofs.Common.{◌≡◌}
use Rattle.cell_contract.specs.Running.{last_or}
use Rattle.test_cells.proofs.torn.write_on.Given as goal

abbrev pub invariant-loop-i : goal.invariant-loop-i
invariant-loop-i g l = g.C.Calls.is_put l.cell l.put × ((last_or (g.C.Calls.opening l.cell) (g.C.Calls.written l.put)).first ≡ l.i)
