-- The write is the last call that was made with the pass.
use Rattle.std.proofs.Common.{refl, ap}
use Rattle.board_live.specs.Records.{stamped}
use Rattle.theorem_uses.proofs.OnePass.{last_stands}
use Rattle.theorem_uses.proofs.going.stands_whoever_stops.Goals as goal

pub returns : goal.returns
returns g c =
    let of = c.requires.pass in
    let write = c.in-Ok.ensures.call.1 in
    let wrote = c.in-Ok.ensures.call.2 in
    last_stands g.F.Family c.args.board.now c.write.new.pass c.so_far_with.new.pass of.made.0 _ c.in-Ok.stamp c.args.item
    c.so_far_with.ensures.atomic (write.made of.made.0 of.made.1) c.in-Ok.ensures.pass.inside refl (ap stamped wrote.2)
    (ap (λ p. p.process) c.so_far_with.ensures.same)
