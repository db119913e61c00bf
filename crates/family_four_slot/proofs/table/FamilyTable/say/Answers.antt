-- The store of the pair gives the slot of the read before back, wherever it lies among the seat's.
use Rattle.std.proofs.Common.{le_refl, arith}
use Rattle.family_four_slot.proofs.Told.{says_ok}
use Rattle.family_four_slot.proofs.table.FamilyTable.say.Goals as goal

pub store-requires : goal.store-requires
store-requires g c =
    let t = c.requires.asked in
    let s = c.args.self.now.sized in
    let place = c.requires.place in
    let b = c.base.ensures in (
      c.requires.own,
      omega arith,
      says_ok g.T.Lawful.fits g.T.Lawful.rises _ _ _ 1 (le_refl 1) _ _ _ c.args.cell _ _ t.0 t.1 t.2 t.3 (omega arith) place
          t.4.process.has t.4.process.one t.4.notes t.5 t.4.process.held t.6 t.7 t.8,
    )
