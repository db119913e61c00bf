-- The load of `reading` begins a write.
use Rattle.std.proofs.Common.{arith}
use Rattle.family_four_slot.proofs.Told.{begins_ok}
use Rattle.family_four_slot.proofs.table.FamilyTable.begin.Goals as goal

pub load-requires : goal.load-requires
load-requires g c =
    let t = c.requires.idle in
    let s = c.args.self.now.sized in
    let place = c.requires.place in
    let b = c.base.ensures in (
      c.requires.own,
      omega arith,
      begins_ok g.T.Lawful.fits g.T.Lawful.rises _ _ _ _ _ _ c.args.cell _ t.0 t.1 _ c.args.item.value (omega arith) place
          t.2.process.has t.2.process.one t.2.notes t.2.process.held t.3 c.requires.item t.4 t.5 t.6,
    )
