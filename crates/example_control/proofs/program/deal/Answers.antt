-- The three passes are taken from the end of those of a new board.
use Rattle.example_control.proofs.Three.{three_taken}
use Rattle.example_control.proofs.program.deal.Goals as goal

pub returns : goal.returns
returns g c =
    let taken = three_taken c.in-Ok.passes.items c.pop.new.self.items c.pop-2.new.self.items c.pop-3.new.self.items c.in-Some-pop-2.limits
    c.in-Some-pop.readings c.in-Some.steering c.in-Some.ensures.items c.in-Some-pop.ensures.items c.in-Some-pop-2.ensures.items
    c.in-Ok.ensures.count.1 in
    let p = c.in-Ok.ensures.each 0 c.in-Some-pop-2.limits taken.0 in
    let q = c.in-Ok.ensures.each 1 c.in-Some-pop.readings taken.1 in
    let r = c.in-Ok.ensures.each 2 c.in-Some.steering taken.2 in
    record {
      opened = c.in-Ok.ensures.opened;
      limited = c.in-Ok.ensures.limited;
      three = c.in-Ok.ensures.count.0;
      limits = record { of = p.0; who = p.1; none = p.3 };
      readings = record { of = q.0; who = q.1; none = q.3 };
      steering = record { of = r.0; who = r.1; none = r.3 };
    }
