-- Each is a part of what was made.
use Rattle.theorem_uses.proofs.Opened.{four_slot_makes, triple_makes}
use Rattle.theorem_uses.proofs.makes.makes_show.Goals as goal

pub returns-clause-four_slot : goal.returns-clause-four_slot
returns-clause-four_slot g c = four_slot_makes

pub returns-clause-triple : goal.returns-clause-triple
returns-clause-triple g c = triple_makes
