-- The accesses of the processes so far are told.
use Rattle.std.proofs.Common.{◌≡◌, ◌++◌}
use Rattle.matrix_core.specs.Runs.{board_span}
use Rattle.picture_shapes.specs.Visits.{term_visits}
use Rattle.picture_shapes.proofs.terms.push_term.Given as goal

abbrev pub invariant-loop-who : goal.invariant-loop-who
invariant-loop-who l = l.visits.items ≡ l.initial.visits.items ++ term_visits l.at (board_span l.term) l.wide l.rows l.ops l.who
