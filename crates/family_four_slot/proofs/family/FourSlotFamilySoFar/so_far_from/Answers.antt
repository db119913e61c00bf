-- One load shows all processes, and the seat is as it was.
use Rattle.std.proofs.Common.{[], ◌∷◌}
use Rattle.family_table.specs.Seated.{known_by}
use Rattle.family_table.proofs.Showing.{same_seat}
use Rattle.family_four_slot.proofs.SoFar.{seat_so_far}
use Rattle.family_four_slot.proofs.family.FourSlotFamilySoFar.so_far_from.Goals as goal

pub returns-clause-same : goal.returns-clause-same
returns-clause-same g c =
    same_seat c.args.seat.now c.all_so_far.new.seat c.all_so_far.ensures.own.0 c.all_so_far.ensures.own.1 c.all_so_far.ensures.same

pub returns-clause-so_far : goal.returns-clause-so_far
returns-clause-so_far g c =
    let s = c.args.seat.now in
    seat_so_far g.T.Planned.plan c.args.self.now s c.requires.own
    (c.all_so_far.ensures.shown (known_by s ∷ []) c.requires.own.one)
