-- The lanes have the passes of the team's board, so they may run.
use Rattle.history_core.specs.Band.{fits}
use Rattle.board_tasks.proofs.LaneLists.{all_ready}
use Rattle.test_families.proofs.teams.outside.told_from_outside.Goals as goal

pub run_tasks-requires-after_bounds : goal.run_tasks-requires-after_bounds
run_tasks-requires-after_bounds g c κs within =
    rw c.as_mut_slice.ensures.value
    (all_ready g.F.Family fits c.answer-2.new.self.board c.answer-2.new.self.passes.items _ c.in_ok-lanes.lanes.items
    c.answer-2.ensures c.in_ok-lanes.ensures)
