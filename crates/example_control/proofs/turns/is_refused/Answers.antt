-- The pass is the board's before its call and after it, so all passes still are.
use Rattle.std.proofs.Common.{arith, sym}
use Rattle.board_live.proofs.Passing.{stood, used}
use Rattle.example_control.specs.Turns.{in_order}
use Rattle.example_control.proofs.turns.is_refused.Goals as goal

pub publish-requires : goal.publish-requires
publish-requires g c =
    (stood g.F.Family in_order c.args.board.now c.args.passes.now.items 3 1 c.index_mut.result.now (sym c.requires.three) (omega arith)
    c.index_mut.ensures.value c.requires.all).0

pub returns : goal.returns
returns g c =
    (used g.F.Family in_order c.args.board.now c.args.passes.now.items 3 1 c.index_mut.result.now c.publish.new.pass
    (sym c.requires.three) (omega arith) c.index_mut.ensures.value c.requires.all c.publish.ensures.pass c.publish.ensures.process).0
