-- Each is a part of it.
use Rattle.theorem_uses.proofs.Boarded.{playable, terms, parts}
use Rattle.theorem_uses.proofs.composed.terms_show.Goals as goal

pub returns-clause-playable : goal.returns-clause-playable
returns-clause-playable g c = playable

pub returns-clause-terms : goal.returns-clause-terms
returns-clause-terms g c = terms

pub returns-clause-parts : goal.returns-clause-parts
returns-clause-parts g c = parts
