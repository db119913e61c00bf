-- The slot accesses of a trace are kept beside it, and each step keeps the invariant by which slots are safe.
use Rattle.four_slot_core.proofs.slots.Cells.{traces_over_safe_slots}
use Rattle.four_slot_core.proofs.traces.Laws.{rises_from_first}
use Rattle.four_slot_core.proofs.laws.cells_are_over_safe_slots.Goals as goal

pub returns : goal.returns
returns g c opening noise items next moments rises =
    traces_over_safe_slots opening noise items moments (rises_from_first next moments rises)
