-- The events are numbered in turn, and leaving out those of other cells leaves the order of the rest.
use Rattle.four_slot_core.proofs.traces.Laws.{moments_of_more, moments_of_rise}
use Rattle.four_slot_core.proofs.laws.positions_rise.Goals as goal

pub returns : goal.returns
returns g c = record { rise = moments_of_rise; more = moments_of_more }
