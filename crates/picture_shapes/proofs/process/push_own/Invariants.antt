-- Each turn moves one operation from those that are left to those whose accesses are told, so both together stay the same.
use Rattle.std.proofs.Common.{◌≡◌, ◌≤◌, ◌++◌, drop}
use Rattle.picture_shapes.specs.Visits.{events_in, own_visits}
use Rattle.picture_shapes.proofs.process.push_own.Given as goal

abbrev pub invariant-loop-place : goal.invariant-loop-place
invariant-loop-place l =
    let all = own_visits (events_in l.steps.positions l.steps.events) l.process.wide l.process.processes l.process.who l.rows in
    (l.visits.items ++ all l.k l.place (drop l.place l.ops) ≡ l.initial.visits.items ++ all 0 0 l.ops) × (l.k ≤ l.place)
