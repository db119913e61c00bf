-- Each is a part of the order.
use Rattle.theorem_uses.proofs.Listings.{at_most_once, saw}
use Rattle.theorem_uses.proofs.orders.listed_writes_show.Goals as goal

pub returns-clause-once : goal.returns-clause-once
returns-clause-once g c = at_most_once

pub returns-clause-saw : goal.returns-clause-saw
returns-clause-saw g c = saw
