-- Looked for at once, so that another value is refused at once.
use Rattle.std.proofs.Common.{rules}
use Rattle.four_slot_core.proofs.cell.CellCore.read_step.Goals as goal

pub returns : goal.returns
returns g c = search rules
