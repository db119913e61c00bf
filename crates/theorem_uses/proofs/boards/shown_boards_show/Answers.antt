-- Each is a consequence of one clause of `so_far`.
use Rattle.theorem_uses.proofs.OnePass.{one_pass_shows, stale_calls}
use Rattle.theorem_uses.proofs.Twice.{answers_the_opening, have_ended, one_greatest, reads_so_far}
use Rattle.theorem_uses.proofs.boards.shown_boards_show.Goals as goal

pub returns-clause-greatest : goal.returns-clause-greatest
returns-clause-greatest g c = one_greatest

pub returns-clause-registers : goal.returns-clause-registers
returns-clause-registers g c = answers_the_opening g.F.Family

pub returns-clause-orders : goal.returns-clause-orders
returns-clause-orders g c = reads_so_far g.F.Family

pub returns-clause-ended : goal.returns-clause-ended
returns-clause-ended g c = have_ended g.F.Family

pub returns-clause-one : goal.returns-clause-one
returns-clause-one g c = one_pass_shows g.F.Family

pub returns-clause-stale : goal.returns-clause-stale
returns-clause-stale g c = stale_calls g.F.Family
