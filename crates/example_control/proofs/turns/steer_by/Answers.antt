-- The pass is the board's before its call and after it, so all passes still are.
use Rattle.std.proofs.Common.{arith, sym}
use Rattle.board_live.proofs.Passing.{stood, used}
use Rattle.example_control.specs.Turns.{in_order}
use Rattle.example_control.proofs.turns.steer_by.Goals as goal

pub steer_when_told-requires-clause-pass : goal.steer_when_told-requires-clause-pass
steer_when_told-requires-clause-pass g c =
    (stood g.F.Family in_order c.args.board.now c.args.passes.now.items 3 2 c.index_mut.result.now (sym c.requires.three) (omega arith)
    c.index_mut.ensures.value c.requires.all).0

pub steer_when_told-requires-clause-other : goal.steer_when_told-requires-clause-other
steer_when_told-requires-clause-other g c = λ e.
    let two = (stood g.F.Family in_order c.args.board.now c.args.passes.now.items 3 2 c.index_mut.result.now (sym c.requires.three)
    (omega arith)
    c.index_mut.ensures.value c.requires.all).1 in
    let one = c.requires.receipt.1 in
    omega (arith, e, one, two)

pub returns : goal.returns
returns g c =
    let x = used g.F.Family in_order c.args.board.now c.args.passes.now.items 3 2 c.index_mut.result.now c.steer_when_told.new.pass
    (sym c.requires.three) (omega arith) c.index_mut.ensures.value c.requires.all c.steer_when_told.ensures.pass
    c.steer_when_told.ensures.process in
    (x.0, sym x.1)
