-- The pass of the last lane stands before those that were taken out.
use Rattle.std.proofs.Common.{arith, ap, ◌∙◌, ◌≡◌, ◌+◌, ◌∷◌, [], length, length-append}
use Rattle.board_live.proofs.Mapping.{mapped_more, mapped_none}
use Rattle.board_tasks.proofs.lanes.into_passes.Goals as goal

pub loop-init : goal.loop-init
loop-init g c = (rw c.in_ok-passes.ensures.items (mapped_none _ c.args.lanes.items), omega arith)

pub loop-preserved : goal.loop-preserved
loop-preserved g c =
    let n : length c.loop.lanes.items ≡ length c.pop.new.self.items + 1 =
    ap length c.in-Some.ensures.items ∙ length-append c.pop.new.self.items (c.in-Some.lane ∷ []) in (
      rw (c.in_ok-push.ensures.items, c.into_pass.ensures)
          (mapped_more _ c.args.lanes.items c.loop.lanes.items c.pop.new.self.items c.loop.passes.items c.in-Some.lane c.loop.invariant.0
          c.in-Some.ensures.items),
      omega (arith, n, c.loop.invariant.1),
    )
