-- Copies of a word and of the record are a family at the start.
use Rattle.family_triple.proofs.Starts.{triples_start}
use Rattle.family_triple.proofs.table.FamilyTable.new.Goals as goal

pub new-requires-clause-starts : goal.new-requires-clause-starts
new-requires-clause-starts g c = triples_start g.T.Lawful.fits g.T.Lawful.rises c.args.first c.args.processes
    g.T.Planned.plan c.args.limit c.requires.lawful c.requires.plan
