-- Each is a part of it.
use Rattle.theorem_uses.proofs.Boarded.{run, slots, listed, by_stamp}
use Rattle.theorem_uses.proofs.composed.runs_of_boards_show.Goals as goal

pub returns-clause-run : goal.returns-clause-run
returns-clause-run g c = run

pub returns-clause-slots : goal.returns-clause-slots
returns-clause-slots g c = slots

pub returns-clause-listed : goal.returns-clause-listed
returns-clause-listed g c = listed

pub returns-clause-order : goal.returns-clause-order
returns-clause-order g c = by_stamp
