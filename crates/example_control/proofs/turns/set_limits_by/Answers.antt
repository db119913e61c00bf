-- The pass is the board's before its call and after it, so all passes still are.
use Rattle.std.proofs.Common.{arith, sym}
use Rattle.board_live.proofs.Passing.{stood, used}
use Rattle.example_control.specs.Turns.{in_order}
use Rattle.example_control.proofs.turns.set_limits_by.Goals as goal

pub set_limits-requires-clause-pass : goal.set_limits-requires-clause-pass
set_limits-requires-clause-pass g c =
    (stood g.F.Family in_order c.args.board.now c.args.passes.now.items 3 0 c.index_mut.result.now (sym c.requires.three) (omega arith)
    c.index_mut.ensures.value c.requires.all).0

pub returns : goal.returns
returns g c =
    let x = used g.F.Family in_order c.args.board.now c.args.passes.now.items 3 0 c.index_mut.result.now c.set_limits.new.pass
    (sym c.requires.three) (omega arith) c.index_mut.ensures.value c.requires.all c.set_limits.ensures.pass c.set_limits.ensures.process in
    (x.0, sym x.1)
