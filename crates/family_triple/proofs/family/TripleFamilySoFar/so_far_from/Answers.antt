-- The load changes nothing, and shows all processes, of which the seat has its own.
use Rattle.std.proofs.Common.{[], ◌∷◌}
use Rattle.family_table.specs.Seated.{known_by}
use Rattle.family_table.proofs.Showing.{same_seat}
use Rattle.family_triple.proofs.SoFar.{seat_so_far}
use Rattle.family_triple.proofs.family.TripleFamilySoFar.so_far_from.Goals as goal

pub all_so_far-requires : goal.all_so_far-requires
all_so_far-requires g c = record { own = c.requires.own.table }

pub returns-clause-same : goal.returns-clause-same
returns-clause-same g c =
    let own = c.all_so_far.ensures.own in
    same_seat c.args.seat.now c.all_so_far.new.seat own.0 own.1 c.all_so_far.ensures.same

pub returns-clause-so_far : goal.returns-clause-so_far
returns-clause-so_far g c =
    let s = c.args.seat.now in
    seat_so_far g.T.Planned.plan c.args.self.now s c.requires.own
    (c.all_so_far.ensures.shown (known_by s ∷ []) c.requires.own.one)
