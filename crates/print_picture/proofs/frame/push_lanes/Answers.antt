-- A lane is drawn behind those before it.
use Rattle.print_picture.proofs.Rows.{lane_step}
use Rattle.print_picture.proofs.frame.push_lanes.Goals as goal

pub loop-lane-preserved : goal.loop-lane-preserved
loop-lane-preserved c = lane_step c.args.lanes c.args.far c.loop-lane.lane _ _ _ c.loop-lane.invariant c.in_ok-push_lane.ensures
