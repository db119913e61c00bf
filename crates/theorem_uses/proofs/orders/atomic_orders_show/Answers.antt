-- Each is a part of the order.
use Rattle.theorem_uses.proofs.Ordered.{each_once, intervals, nothing_else, reads}
use Rattle.theorem_uses.proofs.orders.atomic_orders_show.Goals as goal

pub returns-clause-each : goal.returns-clause-each
returns-clause-each g c = each_once

pub returns-clause-nothing : goal.returns-clause-nothing
returns-clause-nothing g c = nothing_else

pub returns-clause-intervals : goal.returns-clause-intervals
returns-clause-intervals g c = intervals

pub returns-clause-reads : goal.returns-clause-reads
returns-clause-reads g c = reads
