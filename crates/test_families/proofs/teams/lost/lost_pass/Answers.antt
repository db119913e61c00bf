-- The passes are the last two of a new board.
use Rattle.std.proofs.Common.{sym, subst}
use Rattle.history_core.specs.Band.{fits}
use Rattle.board_live.specs.Passes.{IsPass}
use Rattle.board_live.proofs.Passing.{last_two}
use Rattle.test_families.proofs.teams.lost.lost_pass.Goals as goal

pub write-requires-clause-pass : goal.write-requires-clause-pass
write-requires-clause-pass g c =
    (last_two g.F.Family fits c.in_ok-board.field-0.board c.in_ok-board.field-0.passes.items c.pop.new.self.items c.pop-2.new.self.items
    c.in-Some-pop.kept c.in-Some.lost c.in-Some.ensures.items c.in-Some-pop.ensures.items c.in_ok-board.ensures).1

pub so_far_with-requires : goal.so_far_with-requires
so_far_with-requires g c =
    (last_two g.F.Family fits c.in_ok-board.field-0.board c.in_ok-board.field-0.passes.items c.pop.new.self.items c.pop-2.new.self.items
    c.in-Some-pop.kept c.in-Some.lost c.in-Some.ensures.items c.in-Some-pop.ensures.items c.in_ok-board.ensures).0

pub read-first-requires : goal.read-first-requires
read-first-requires g c =
    subst (λ p. IsPass g.F.Family fits c.in_ok-board.field-0.board p) (sym c.so_far_with.ensures.same)
    (last_two g.F.Family fits c.in_ok-board.field-0.board c.in_ok-board.field-0.passes.items c.pop.new.self.items c.pop-2.new.self.items
    c.in-Some-pop.kept c.in-Some.lost c.in-Some.ensures.items c.in-Some-pop.ensures.items c.in_ok-board.ensures).0
