-- The first of the others were read: those before the process, and then those after it too.
use Rattle.std.proofs.Common.{◌-◌, ◌<◌}
use Rattle.family_four_slot.specs.Seated.{SeatShowsAll}
use Rattle.family_four_slot.proofs.Columns.{Column}
use Rattle.family_four_slot.proofs.family.FourSlotFamilyFamily.read_all_from.Given as goal

abbrev pub invariant-loop-from : goal.invariant-loop-from
invariant-loop-from g l =
    Column l.fn.self g.T.Lawful.fits g.T.Lawful.rises g.L.Sees.sees l.fn.seat l.fn.seen l.from (l.seat, l.seen)
    × (0 < l.from → SeatShowsAll g.T.Planned.plan l.fn.self l.seat)

abbrev pub invariant-loop-from-2 : goal.invariant-loop-from-2
invariant-loop-from-2 g l =
    Column l.fn.self g.T.Lawful.fits g.T.Lawful.rises g.L.Sees.sees l.fn.seat l.fn.seen (l.from - 1) (l.seat, l.seen)
    × (0 < l.from - 1 → SeatShowsAll g.T.Planned.plan l.fn.self l.seat)
