-- The register holds no earlier write in the order.
use Rattle.cell_contract.proofs.Standing.{later_reads_rise, receipts_rise}
use Rattle.cell_contract.proofs.laws.later_reads_rise.Goals as goal

pub returns-clause-reads : goal.returns-clause-reads
returns-clause-reads g c = later_reads_rise g.T.Lawful.fits g.T.Lawful.rises g.T.Lawful.reflexive g.T.Lawful.transitive

pub returns-clause-receipts : goal.returns-clause-receipts
returns-clause-receipts g c = receipts_rise g.T.Lawful.fits g.T.Lawful.rises g.T.Lawful.reflexive g.T.Lawful.transitive
