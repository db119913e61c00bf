-- The lane has the last pass of a new board.
use Rattle.history_core.specs.Band.{fits}
use Rattle.board_live.proofs.Passing.{all_new}
use Rattle.test_growths.proofs.Used.{one_ready}
use Rattle.test_growths.proofs.lanes.one_lane.Goals as goal

pub run_tasks-requires-after_bounds : goal.run_tasks-requires-after_bounds
run_tasks-requires-after_bounds g c κs within =
    rw (c.as_mut_slice.ensures.value, c.in_ok-push.ensures.items, c.in_ok-lanes.ensures.items)
    (one_ready g.F.Family fits c.in-Ok.board c.in-Ok.passes.items c.pop.new.self.items c.in-Some.pass
    c.in_ok-lane_of.field-0 (all_new g.F.Family fits c.in-Ok.board _ _ _ c.in-Ok.passes.items c.in-Ok.ensures)
    c.in-Some.ensures.items c.in_ok-lane_of.ensures)
