-- The passes are those of a new board.
use Rattle.example_control.proofs.Three.{two_taken}
use Rattle.example_control.proofs.boards.last_of_two.Goals as goal

pub ends_in_order-requires-clause-writer : goal.ends_in_order-requires-clause-writer
ends_in_order-requires-clause-writer g c =
    let taken = two_taken c.in-Ok.passes.items c.pop.new.self.items c.pop-2.new.self.items c.in-Some-pop.writer c.in-Some.reader
    c.in-Some.ensures.items c.in-Some-pop.ensures.items c.in-Ok.ensures.count.1 in
    let x = c.in-Ok.ensures.each 0 c.in-Some-pop.writer taken.0 in
    record { of = x.0; who = x.1; none = x.3 }

pub ends_in_order-requires-clause-reader : goal.ends_in_order-requires-clause-reader
ends_in_order-requires-clause-reader g c =
    let taken = two_taken c.in-Ok.passes.items c.pop.new.self.items c.pop-2.new.self.items c.in-Some-pop.writer c.in-Some.reader
    c.in-Some.ensures.items c.in-Some-pop.ensures.items c.in-Ok.ensures.count.1 in
    let x = c.in-Ok.ensures.each 1 c.in-Some.reader taken.1 in
    record { of = x.0; who = x.1; none = x.3 }
