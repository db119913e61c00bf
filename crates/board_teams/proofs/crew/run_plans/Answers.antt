-- The lanes are those of a new board's passes, so they may run, and have worked with fresh ones.
use Rattle.std.proofs.Common.{rules, refl, sym, subst, ◌≡◌, arith, length}
use Rattle.history_core.specs.Band.{fits}
use Rattle.board_live.proofs.Passing.{all_new}
use Rattle.board_tasks.specs.Lanes.{AreLanes}
use Rattle.board_tasks.specs.Worked.{HaveWorked}
use Rattle.board_tasks.proofs.LaneLists.{all_ready}
use Rattle.board_tasks.proofs.Works.{changed_whole, have_worked}
use Rattle.board_teams.proofs.crew.run_plans.Goals as goal

pub run_tasks-requires-after_bounds : goal.run_tasks-requires-after_bounds
run_tasks-requires-after_bounds g c κs within =
    rw c.as_mut_slice.ensures.value
    (all_ready g.F.Family fits c.in-Ok.board c.in-Ok.passes.items _ c.in_ok-lanes.lanes.items
    (all_new g.F.Family fits c.in-Ok.board _ _ _ c.in-Ok.passes.items c.in-Ok.ensures) c.in_ok-lanes.ensures)

pub returns : goal.returns
returns g c =
    let n : c.in_ok-lanes.lanes.len ≡ length c.in_ok-lanes.lanes.items = search rules in
    let whole = changed_whole c.in_ok-lanes.lanes.len c.in_ok-lanes.lanes.items c.as_mut_slice.result.now c.run_tasks.new.lanes _ n
    c.as_mut_slice.ensures.value c.run_tasks.ensures.lengths refl in
    let two = c.in-Ok.ensures.size.0 in
    subst (HaveWorked g.F.Family fits c.in-Ok.board) (sym whole)
    (have_worked g.F.Family fits _ _ _ _ _ c.in-Ok.board c.in-Ok.passes.items c.in_ok-all.all c.as_mut_slice.result.now
    c.run_tasks.new.lanes c.in-Ok.ensures
    (omega arith)
    (subst (λ z. AreLanes fits c.in-Ok.passes.items c.in_ok-all.all z) (sym c.as_mut_slice.ensures.value) c.in_ok-lanes.ensures)
    c.run_tasks.ensures)
