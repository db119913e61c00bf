-- The lanes are those of a new board's passes, which they still have after the run.
use Rattle.std.proofs.Common.{rules, refl, ◌≡◌, length}
use Rattle.history_core.specs.Band.{fits}
use Rattle.board_live.proofs.Passing.{all_new}
use Rattle.board_tasks.proofs.LaneLists.{all_ready}
use Rattle.test_growths.proofs.Used.{used_on}
use Rattle.test_growths.proofs.lanes.all_tasks.Goals as goal

pub run_tasks-requires-after_bounds : goal.run_tasks-requires-after_bounds
run_tasks-requires-after_bounds g c κs within =
    rw c.as_mut_slice.ensures.value
    (all_ready g.F.Family fits c.in-Ok.board c.in-Ok.passes.items _ c.in_ok-lanes.lanes.items
    (all_new g.F.Family fits c.in-Ok.board _ _ _ c.in-Ok.passes.items c.in-Ok.ensures) c.in_ok-lanes.ensures)

pub usable_passes-usable-requires : goal.usable_passes-usable-requires
usable_passes-usable-requires g c =
    let n : c.in_ok-lanes.lanes.len ≡ length c.in_ok-lanes.lanes.items = search rules in
    used_on g.F.Family fits c.in-Ok.board _ _ c.in_ok-lanes.lanes.len c.in_ok-lanes.lanes.items c.as_mut_slice.result.now
    c.run_tasks.new.lanes _ n c.as_mut_slice.ensures.value
    c.run_tasks.ensures refl
