-- After the last turn there are as many as wanted.
use Rattle.std.proofs.Common.{◌≡◌, ◌∙◌, ap, arith, replicate}
use Rattle.four_slot_core.specs.Events.{opening_state}
use Rattle.composed_play.proofs.board.cells_filled.Goals as goal

pub returns : goal.returns
returns g c =
    let e : c.loop-i._i ≡ c.args.count = omega (arith, c.loop-i.auto._i-end, c.loop-i-test.false) in
    c.loop-i.invariant ∙ ap (λ m. replicate m (opening_state c.args.opening c.args.noise)) e
