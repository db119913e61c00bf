-- Each cell is a trace from its opening, at positions that rise.
use Rattle.four_slot_core.proofs.slots.Cells.{traces_over_safe_slots}
use Rattle.four_slot_core.proofs.traces.Laws.{moments_of_rise, rises_from_first}
use Rattle.composed_play.specs.Boards.{cell_moments, events_after, noise_record, turn_in}
use Rattle.std.proofs.Common.{length, []}
use Rattle.matrix_core.specs.Lines.{first_record}
use Rattle.composed_play.proofs.laws.boards_are_over_safe_slots.Goals as goal

pub returns : goal.returns
returns g c at span opening noise chosen i j = traces_over_safe_slots (first_record opening) (noise_record noise) (chosen i)
    (cell_moments at span i j) (rises_from_first at (cell_moments at span i j)
    (moments_of_rise (turn_in (length span.plans) i j) at (events_after span.accesses [] span.steps)))
