-- Each is a part of its definition.
use Rattle.theorem_uses.proofs.Dealing.{order, register, sources, unused}
use Rattle.theorem_uses.proofs.dealt.one_order_shows.Goals as goal

pub returns-clause-unused : goal.returns-clause-unused
returns-clause-unused g c = unused

pub returns-clause-sources : goal.returns-clause-sources
returns-clause-sources g c = sources

pub returns-clause-register : goal.returns-clause-register
returns-clause-register g c = register

pub returns-clause-order : goal.returns-clause-order
returns-clause-order g c = order
