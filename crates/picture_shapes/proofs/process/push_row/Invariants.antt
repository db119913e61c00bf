-- Each turn moves one access from those that are left to those that are told, so both together stay the same.
use Rattle.std.proofs.Common.{◌≡◌, ◌++◌, drop}
use Rattle.picture_shapes.specs.Visits.{events_in, row_visits}
use Rattle.picture_shapes.proofs.process.push_row.Given as goal

abbrev pub invariant-loop-number : goal.invariant-loop-number
invariant-loop-number l =
    let all = row_visits (events_in l.steps.positions l.steps.events) l.k l.process.wide l.process.processes l.process.who in
    l.visits.items ++ all l.number (drop l.number l.row) ≡ l.initial.visits.items ++ all 0 l.row
