-- Each turn moves one step from those that are left to those that are looked at, so both together stay the same.
use Rattle.std.proofs.Common.{◌≡◌, ◌+◌, ◌++◌, drop}
use Rattle.history_core.specs.Schedules.{positions}
use Rattle.picture_shapes.proofs.process.process_steps.Given as goal

abbrev pub invariant-loop-i : goal.invariant-loop-i
invariant-loop-i l = l.made.items ++ positions (l.at + l.i) l.who (drop l.i l.steps) ≡ positions l.at l.who l.steps
