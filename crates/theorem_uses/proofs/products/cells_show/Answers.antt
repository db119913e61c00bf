-- Each is a part of it.
use Rattle.theorem_uses.proofs.Theorems.{writes, tells, reads, ends}
use Rattle.theorem_uses.proofs.products.cells_show.Goals as goal

pub returns-clause-writes : goal.returns-clause-writes
returns-clause-writes g c = writes g.C.Calls g.T.Lawful.fits g.T.Lawful.rises

pub returns-clause-tells : goal.returns-clause-tells
returns-clause-tells g c = tells g.C.Calls g.T.Lawful.fits g.T.Lawful.rises

pub returns-clause-reads : goal.returns-clause-reads
returns-clause-reads g c = reads g.C.Calls g.T.Lawful.fits g.T.Lawful.rises

pub returns-clause-ends : goal.returns-clause-ends
returns-clause-ends g c = ends g.C.Calls g.T.Lawful.fits g.T.Lawful.rises
