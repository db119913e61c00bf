-- The pass is the board's before its call and after it, so all passes still are.
use Rattle.std.proofs.Common.{◌∙◌, arith, sym}
use Rattle.std.proofs.lemmas.Result.{IfOk-weaker}
use Rattle.board_live.proofs.Passing.{stood, used}
use Rattle.example_control.specs.Turns.{in_order}
use Rattle.example_control.proofs.turns.publish_by.Goals as goal

pub publish_and_tell-requires : goal.publish_and_tell-requires
publish_and_tell-requires g c =
    (stood g.F.Family in_order c.args.board.now c.args.passes.now.items 3 1 c.index_mut.result.now (sym c.requires.three) (omega arith)
    c.index_mut.ensures.value c.requires.all).0

pub returns-clause-receipt : goal.returns-clause-receipt
returns-clause-receipt g c =
    let one = (stood g.F.Family in_order c.args.board.now c.args.passes.now.items 3 1 c.index_mut.result.now (sym c.requires.three)
    (omega arith)
    c.index_mut.ensures.value c.requires.all).1 in
    IfOk-weaker c.publish_and_tell.result _ _ (λ r h. (h.0, h.1 ∙ one)) c.publish_and_tell.ensures.receipt

pub returns-clause-all : goal.returns-clause-all
returns-clause-all g c =
    let x = used g.F.Family in_order c.args.board.now c.args.passes.now.items 3 1 c.index_mut.result.now c.publish_and_tell.new.pass
    (sym c.requires.three) (omega arith) c.index_mut.ensures.value c.requires.all c.publish_and_tell.ensures.pass
    c.publish_and_tell.ensures.process in
    (x.0, sym x.1)
