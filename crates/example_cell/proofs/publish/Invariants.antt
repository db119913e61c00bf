-- The last sample written has the number of turns passed, so the next one rises from it.
use Rattle.std.proofs.Common.{◌≡◌}
use Rattle.cell_contract.specs.Running.{last_or}
use Rattle.example_cell.proofs.publish.Given as goal

abbrev pub invariant-loop-turn : goal.invariant-loop-turn
invariant-loop-turn g l =
    g.C.Calls.is_put l.cell l.task.put
    × ((last_or (g.C.Calls.opening l.cell) (g.C.Calls.written l.task.put)).number ≡ l.task.number)
    × (l.task.number ≡ l.turn)
