-- The lanes so far are drawn.
use Rattle.std.proofs.Common.{◌≡◌, ◌++◌}
use Rattle.print_picture.specs.Picture.{lanes_text}
use Rattle.print_picture.proofs.frame.push_lanes.Given as goal

abbrev pub invariant-loop-lane : goal.invariant-loop-lane
invariant-loop-lane l = l.text.items ≡ l.initial.text.items ++ lanes_text l.lanes l.far l.lane
