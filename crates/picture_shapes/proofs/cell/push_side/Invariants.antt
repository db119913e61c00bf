-- Each turn moves one operation from those that are left to those whose accesses are told, so both together stay the same.
use Rattle.std.proofs.Common.{◌≡◌, ◌≤◌, ◌++◌, drop}
use Rattle.picture_shapes.specs.Visits.{events_in, side_visits}
use Rattle.picture_shapes.proofs.cell.push_side.Given as goal

abbrev pub invariant-loop-place : goal.invariant-loop-place
invariant-loop-place l =
    (l.visits.items ++ side_visits (events_in l.steps.positions l.steps.events) l.who l.turn l.slots l.k l.place (drop l.place l.ops)
    ≡ l.initial.visits.items ++ side_visits (events_in l.steps.positions l.steps.events) l.who l.turn l.slots 0 0 l.ops)
    × (l.k ≤ l.place)
