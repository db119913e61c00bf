-- The mark of a slot read rises at R4 or at a W2 after it, and these are the two ways in which the intervals can meet.
use Rattle.four_slot_core.proofs.slots.Steps.{slots_safe}
use Rattle.four_slot_core.proofs.laws.slots_are_safe.Goals as goal

pub returns : goal.returns
returns g c = slots_safe
