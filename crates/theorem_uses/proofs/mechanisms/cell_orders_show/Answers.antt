-- Each is a part of it.
use Rattle.theorem_uses.proofs.Played.{orders, numbers, own_numbers, stood}
use Rattle.theorem_uses.proofs.mechanisms.cell_orders_show.Goals as goal

pub returns-clause-orders : goal.returns-clause-orders
returns-clause-orders g c = orders

pub returns-clause-numbers : goal.returns-clause-numbers
returns-clause-numbers g c = numbers

pub returns-clause-own : goal.returns-clause-own
returns-clause-own g c = own_numbers

pub returns-clause-places : goal.returns-clause-places
returns-clause-places g c = stood
