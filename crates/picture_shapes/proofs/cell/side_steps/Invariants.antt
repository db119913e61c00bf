-- Each turn moves one step from those that are left to those that are looked at, so both together stay the same.
use Rattle.std.proofs.Common.{◌≡◌, ◌++◌, drop, map}
use Rattle.history_core.specs.Schedules.{positions}
use Rattle.four_slot_core.specs.Play.{actor}
use Rattle.picture_shapes.proofs.cell.side_steps.Given as goal

abbrev pub invariant-loop-i : goal.invariant-loop-i
invariant-loop-i l =
    l.made.items ++ positions l.i (actor l.side) (map actor (drop l.i l.steps)) ≡ positions 0 (actor l.side) (map actor l.steps)
