-- Each is a part of it.
use Rattle.theorem_uses.proofs.Boarded.{first, second, choices, earlier}
use Rattle.theorem_uses.proofs.composed.choices_show.Goals as goal

pub returns-clause-first : goal.returns-clause-first
returns-clause-first g c = first

pub returns-clause-second : goal.returns-clause-second
returns-clause-second g c = second

pub returns-clause-choices : goal.returns-clause-choices
returns-clause-choices g c = choices

pub returns-clause-earlier : goal.returns-clause-earlier
returns-clause-earlier g c = earlier
