-- Each is a part of the answer.
use Rattle.theorem_uses.proofs.Reported.{searches}
use Rattle.theorem_uses.proofs.reports.searches_show.Goals as goal

pub returns : goal.returns
returns g c = searches
