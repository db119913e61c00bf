-- The record was written to the first of the others: to those before the process, and then to those after it too.
use Rattle.std.proofs.Common.{◌-◌, ◌<◌}
use Rattle.family_four_slot.specs.Seated.{SeatShowsAll}
use Rattle.family_four_slot.proofs.Rows.{Row}
use Rattle.family_four_slot.proofs.family.FourSlotFamilyFamily.write_all_from.Given as goal

abbrev pub invariant-loop-to : goal.invariant-loop-to
invariant-loop-to g l =
    Row l.fn.self l.fn.item l.fn.seat l.to l.seat × (0 < l.to → SeatShowsAll g.T.Planned.plan l.fn.self l.seat)

abbrev pub invariant-loop-to-2 : goal.invariant-loop-to-2
invariant-loop-to-2 g l =
    Row l.fn.self l.fn.item l.fn.seat (l.to - 1) l.seat × (0 < l.to - 1 → SeatShowsAll g.T.Planned.plan l.fn.self l.seat)
