-- Each is a part of the answer.
use Rattle.theorem_uses.proofs.Answered.{knows, obeys, takes_time}
use Rattle.theorem_uses.proofs.cells.next_answers_show.Goals as goal

pub returns-clause-known : goal.returns-clause-known
returns-clause-known g c = knows

pub returns-clause-lawful : goal.returns-clause-lawful
returns-clause-lawful g c = obeys g.T.Lawful.fits g.T.Lawful.rises

pub returns-clause-timed : goal.returns-clause-timed
returns-clause-timed g c = takes_time
