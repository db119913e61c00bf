-- The seat of the last pass stands before those that were taken out.
use Rattle.std.proofs.Common.{arith, ap, ◌∙◌, ◌≡◌, ◌+◌, ◌∷◌, [], length, length-append}
use Rattle.board_live.proofs.Mapping.{mapped_more, mapped_none}
use Rattle.board_live.proofs.left.seats_left.Goals as goal

pub loop-init : goal.loop-init
loop-init g c = (rw c.in_ok-seats.ensures.items (mapped_none _ c.args.passes.items), omega arith)

pub loop-preserved : goal.loop-preserved
loop-preserved g c =
    let n : length c.loop.passes.items ≡ length c.pop.new.self.items + 1 =
    ap length c.in-Some.ensures.items ∙ length-append c.pop.new.self.items (c.in-Some.pass ∷ []) in (
      rw c.in_ok-push.ensures.items
          (mapped_more (λ p. p.seat) c.args.passes.items c.loop.passes.items c.pop.new.self.items c.loop.seats.items c.in-Some.pass
          c.loop.invariant.0 c.in-Some.ensures.items),
      omega (arith, n, c.loop.invariant.1),
    )
