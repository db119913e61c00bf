-- Each turn moves one term from those that are left to those that are told, so both together stay the same; so do their steps.
use Rattle.std.proofs.Common.{◌≡◌, ◌+◌, ◌++◌, drop}
use Rattle.matrix_core.specs.Runs.{step_count}
use Rattle.picture_shapes.specs.Visits.{terms_visits}
use Rattle.picture_shapes.proofs.terms.terms_visits.Given as goal

abbrev pub invariant-loop-t : goal.invariant-loop-t
invariant-loop-t l =
    let all = terms_visits l.wide l.marks l.ops l.rows in
    (l.visits.items ++ all l.at l.t (drop l.t l.terms) ≡ all 0 0 l.terms)
    × (l.at + step_count (drop l.t l.terms) ≡ step_count l.terms)
