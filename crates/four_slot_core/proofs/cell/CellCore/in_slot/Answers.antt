-- Looked for at once, so that another value is refused at once.
use Rattle.std.proofs.Common.{rules}
use Rattle.four_slot_core.proofs.cell.CellCore.in_slot.Goals as goal

pub returns-then-eq-2 : goal.returns-then-eq-2
returns-then-eq-2 g c = search rules

pub returns-else-eq-2 : goal.returns-else-eq-2
returns-else-eq-2 g c = search rules
