-- The second look needs the passes that the first one gives back.
use Rattle.theorem_uses.proofs.Twice.{answers_the_opening, one_greatest, reads_so_far}
use Rattle.theorem_uses.proofs.going.looked_twice.Goals as goal

pub returns-clause-same : goal.returns-clause-same
returns-clause-same g c =
    one_greatest c.args.passes.now.items c.so_far-first.new.passes.items c.so_far-first.result c.so_far-second.result
    c.so_far-first.ensures.same c.so_far-first.ensures.last c.so_far-second.ensures.last

pub returns-clause-reads : goal.returns-clause-reads
returns-clause-reads g c =
    reads_so_far g.F.Family c.args.board.now c.args.passes.now.items c.so_far-first.result c.so_far-first.ensures.atomic

pub returns-clause-opening : goal.returns-clause-opening
returns-clause-opening g c = answers_the_opening g.F.Family c.args.board.now c.args.passes.now.items c.so_far-first.ensures.registers
