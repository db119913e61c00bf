-- The pass of the last lane stands before those that were taken out, and so does its log.
use Rattle.std.proofs.Common.{arith, ap, ◌∙◌, ◌≡◌, ◌+◌, ◌∷◌, [], length, length-append, map}
use Rattle.board_live.proofs.Mapping.{mapped_all, mapped_more, mapped_none}
use Rattle.board_tasks.proofs.Logged.{items_of}
use Rattle.board_tasks.proofs.lanes.all_parts.Goals as goal

pub loop-init : goal.loop-init
loop-init g c = (
  rw c.in_ok-passes.ensures.items (mapped_none _ c.args.lanes.items),
  rw c.in_ok-logs.ensures.items (mapped_none _ c.args.lanes.items),
  omega arith,
)

pub loop-preserved : goal.loop-preserved
loop-preserved g c =
    let n : length c.loop.lanes.items ≡ length c.pop.new.self.items + 1 =
    ap length c.in-Some.ensures.items ∙ length-append c.pop.new.self.items (c.in-Some.lane ∷ []) in (
      rw (c.in_ok-push.ensures.items, c.into_parts-pass.ensures.0)
          (mapped_more _ c.args.lanes.items c.loop.lanes.items c.pop.new.self.items c.loop.passes.items c.in-Some.lane c.loop.invariant.0
          c.in-Some.ensures.items),
      rw (c.in_ok-push-2.ensures.items, c.into_parts-pass.ensures.1)
          (mapped_more _ c.args.lanes.items c.loop.lanes.items c.pop.new.self.items c.loop.logs.items c.in-Some.lane c.loop.invariant.1
          c.in-Some.ensures.items),
      omega (arith, n, c.loop.invariant.2),
    )

pub returns-clause-passes : goal.returns-clause-passes
returns-clause-passes g c =
    let n : length c.loop.lanes.items ≡ 0 = omega (arith, c.loop.invariant.2) in
    c.reverse.ensures.items ∙ mapped_all _ c.args.lanes.items c.loop.lanes.items c.loop.passes.items c.loop.invariant.0 n

pub returns-clause-logs : goal.returns-clause-logs
returns-clause-logs g c =
    let n : length c.loop.lanes.items ≡ 0 = omega (arith, c.loop.invariant.2) in
    ap (map (λ v. v.items))
    (c.reverse-2.ensures.items ∙ mapped_all _ c.args.lanes.items c.loop.lanes.items c.loop.logs.items c.loop.invariant.1 n)
    ∙ items_of c.args.lanes.items
