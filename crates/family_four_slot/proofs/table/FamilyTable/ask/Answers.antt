-- The load of `latest` begins a read.
use Rattle.std.proofs.Common.{arith}
use Rattle.family_four_slot.proofs.Told.{asks_ok}
use Rattle.family_four_slot.proofs.table.FamilyTable.ask.Goals as goal

pub load-requires : goal.load-requires
load-requires g c =
    let t = c.requires.idle in
    let s = c.args.self.now.sized in
    let place = c.requires.place in
    let b = c.base.ensures in (
      c.requires.own,
      omega arith,
      asks_ok g.T.Lawful.fits g.T.Lawful.rises _ _ _ _ _ _ c.args.cell _ t.0 t.1 (omega arith) place
          t.2.process.has t.2.process.one t.2.notes t.2.process.held t.3 t.4,
    )
