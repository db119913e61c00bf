-- Each is a part of its definition.
use Rattle.theorem_uses.proofs.Shown.{counts, follows, greatest, nothing, operations, order}
use Rattle.theorem_uses.proofs.parts.numbers_show.Goals as goal

pub returns-clause-order : goal.returns-clause-order
returns-clause-order g c = order

pub returns-clause-counts : goal.returns-clause-counts
returns-clause-counts g c = counts

pub returns-clause-ops : goal.returns-clause-ops
returns-clause-ops g c = operations

pub returns-clause-nothing : goal.returns-clause-nothing
returns-clause-nothing g c = nothing

pub returns-clause-greatest : goal.returns-clause-greatest
returns-clause-greatest g c = greatest

pub returns-clause-follows : goal.returns-clause-follows
returns-clause-follows g c = follows
