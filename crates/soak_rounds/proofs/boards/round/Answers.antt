-- Lanes of a new board's passes may run, and do their whole scripts.
use Rattle.std.proofs.Common.{rules, ◌≡◌, ◌∙◌, length, refl}
use Rattle.board_tasks.proofs.LaneLists.{all_ready}
use Rattle.board_tasks.proofs.Works.{changed_whole}
use Rattle.board_live.proofs.Passing.{all_new}
use Rattle.soak_rounds.specs.Records.{no_law}
use Rattle.soak_rounds.proofs.LaneRounds.{is_round}
use Rattle.soak_rounds.proofs.boards.round.Goals as goal

pub run_tasks-requires-after_bounds : goal.run_tasks-requires-after_bounds
run_tasks-requires-after_bounds g c κs within = rw c.as_mut_slice.ensures.value
    (all_ready g.F.Family no_law c.in-Ok.board c.in-Ok.passes.items _ c.in_ok-lanes.lanes.items
    (all_new g.F.Family no_law c.in-Ok.board _ _ _ c.in-Ok.passes.items c.in-Ok.ensures) c.in_ok-lanes.ensures)

pub returns : goal.returns
returns g c =
    let n : c.in_ok-lanes.lanes.len ≡ length c.in_ok-lanes.lanes.items = search rules in
    let whole = changed_whole c.in_ok-lanes.lanes.len c.in_ok-lanes.lanes.items c.as_mut_slice.result.now c.run_tasks.new.lanes _ n
    c.as_mut_slice.ensures.value c.run_tasks.ensures.lengths refl in
    is_round g.F.Family no_law _ _ c.args.opening c.args.tasks c.args.from c.args.calls c.look-tally.result _ _ c.in-Ok.board
    c.in-Ok.passes.items
    c.in_ok-scripts.scripts c.in_ok-lanes.lanes.items c.run_tasks.new.lanes c.as_mut_slice.result.now c.as_slice.result.now
    (λ t call never. never) c.in_ok-scripts.ensures.count c.in_ok-scripts.ensures.scripted c.in_ok-lanes.ensures
    c.as_mut_slice.ensures.value c.run_tasks.ensures (c.as_slice.ensures.value ∙ whole) c.look-tally.ensures
