-- The store of the pair finishes the write.
use Rattle.std.proofs.Common.{arith}
use Rattle.cell_four_slot.proofs.Spread.{finishes_spread}
use Rattle.cell_four_slot.proofs.table.FourSlotTable.finish.Goals as goal

pub store-requires : goal.store-requires
store-requires g c =
    let t = c.requires.stored in (
      c.requires.own,
      (let s = c.args.self.now.sized in omega arith),
      finishes_spread g.T.Lawful.fits g.T.Lawful.rises _ _ _ _ t.0 _ t.1 t.2 t.3,
    )
