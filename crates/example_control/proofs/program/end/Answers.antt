-- The passes are pushed in their order.
use Rattle.std.proofs.Common.{subst, sym}
use Rattle.board_live.specs.Ends.{AllPasses, HaveAtomicOrder}
use Rattle.example_control.specs.Turns.{in_order}
use Rattle.example_control.proofs.Three.{three_pushed}
use Rattle.example_control.proofs.program.end.Goals as goal

pub returns : goal.returns
returns g c =
    let passes = three_pushed c.in_ok-passes.passes.items c.push_reserved.new.self.items c.push_reserved-2.new.self.items
    c.push_reserved-3.new.self.items c.args.limits c.args.readings c.args.steering c.in_ok-passes.ensures.items
    c.push_reserved.ensures.items
    c.push_reserved-2.ensures.items c.push_reserved-3.ensures.items in
    subst (λ ps. HaveAtomicOrder g.F.Family c.args.board ps c.finish.result) passes c.finish.ensures.atomic

pub finish-requires : goal.finish-requires
finish-requires g c =
    let passes = three_pushed c.in_ok-passes.passes.items c.push_reserved.new.self.items c.push_reserved-2.new.self.items
    c.push_reserved-3.new.self.items c.args.limits c.args.readings c.args.steering c.in_ok-passes.ensures.items
    c.push_reserved.ensures.items
    c.push_reserved-2.ensures.items c.push_reserved-3.ensures.items in
    subst (λ ps. AllPasses g.F.Family in_order c.args.board ps) (sym passes) c.requires
