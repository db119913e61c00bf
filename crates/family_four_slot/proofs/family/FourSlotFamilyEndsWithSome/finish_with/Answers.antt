-- The one seat has the processes of all of them, and its last load shows all processes.
use Rattle.std.proofs.Common.{◌<◌, arith, length}
use Rattle.family_four_slot.proofs.SoFar.{seats_so_far}
use Rattle.family_four_slot.proofs.family.FourSlotFamilyEndsWithSome.finish_with.Goals as goal

pub gathered-seat-requires-clause-own : goal.gathered-seat-requires-clause-own
gathered-seat-requires-clause-own g c = λ i s e. (c.requires.seats i s e).table

pub gathered-seat-requires-clause-one : goal.gathered-seat-requires-clause-one
gathered-seat-requires-clause-one g c = λ i s e. (c.requires.seats i s e).one

pub returns : goal.returns
returns g c =
    let all = c.gathered-seat.ensures.all in
    let some : 0 < length c.args.seats.items = omega (arith, c.requires.some) in
    record {
      so_far = seats_so_far g.T.Planned.plan c.args.self c.args.seats.items some c.requires.seats all.0 all.2
          (c.all_so_far.ensures.shown all.0 all.1);
    }
