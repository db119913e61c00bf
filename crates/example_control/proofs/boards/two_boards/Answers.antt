-- The pass is one of the new board's.
use Rattle.std.proofs.Common.{arith, sym}
use Rattle.board_live.proofs.Passing.{all_new, stood}
use Rattle.example_control.specs.Turns.{in_order}
use Rattle.example_control.proofs.boards.two_boards.Goals as goal

pub steer-second-requires : goal.steer-second-requires
steer-second-requires g c =
    (stood g.F.Family in_order c.in_ok-next.next c.in_ok-next.others.items _ 2 c.index_mut.result.now (sym c.in_ok-next.ensures.count.1)
    (omega arith) c.index_mut.ensures.value
    (all_new g.F.Family in_order c.in_ok-next.next _ _ _ c.in_ok-next.others.items c.in_ok-next.ensures)).0

pub share-requires-clause-all : goal.share-requires-clause-all
share-requires-clause-all g c = all_new g.F.Family in_order c.in_ok-board.board _ _ _ c.in_ok-board.passes.items c.in_ok-board.ensures
