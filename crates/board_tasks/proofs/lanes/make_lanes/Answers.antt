-- The last pass and the last script make the lane before those that were made.
use Rattle.std.proofs.Common.{arith, ap, ◌∙◌, ◌≡◌, ◌+◌, ◌∷◌, ◌++◌, [], All, length, length-append}
use Rattle.board_tasks.specs.Logs.{Obeys}
use Rattle.board_tasks.proofs.LaneLists.{all_at, lanes_more, lanes_none}
use Rattle.board_tasks.proofs.lanes.make_lanes.Goals as goal

pub loop-init : goal.loop-init
loop-init g c = (
  rw (c.into_vec-scripts.ensures, c.in_ok-lanes.ensures.items)
      (lanes_none g.F.Family g.V.RecordLaw.obeys c.args.passes.items c.args.scripts c.requires.counts),
  omega arith,
)

pub new-requires : goal.new-requires
new-requires g c =
    let inv = c.loop.invariant.0 in
    rw c.into_vec.ensures
    (all_at (All (Obeys g.V.RecordLaw.obeys)) c.args.scripts c.pop-in-loop.new.self.items c.in-Some-pop.script inv.done_scripts
    (inv.of_scripts ∙ ap (λ z. z ++ inv.done_scripts) c.in-Some-pop.ensures.items) c.requires.lawful)

pub loop-preserved : goal.loop-preserved
loop-preserved g c =
    let made = c.in-Ok.ensures.made in
    let n : length c.loop.passes.items ≡ length c.pop.new.self.items + 1 =
    ap length c.in-Some.ensures.items ∙ length-append c.pop.new.self.items (c.in-Some.pass ∷ []) in (
      rw c.in_ok-push-in-Ok.ensures.items
          (lanes_more g.F.Family g.V.RecordLaw.obeys c.args.passes.items c.args.scripts c.loop.passes.items c.pop.new.self.items
          c.loop.scripts.items
          c.pop-in-loop.new.self.items c.loop.lanes.items
          c.in-Some.pass c.in-Some-pop.script c.in-Ok.lane c.loop.invariant.0 c.in-Some.ensures.items c.in-Some-pop.ensures.items
          (record { is = c.in-Ok.ensures.lane; has = made.0; plans = made.1 ∙ c.into_vec.ensures; empty = made.2 })),
      omega (arith, n, c.loop.invariant.1),
    )
