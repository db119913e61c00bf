-- The store of the index gives the filled slot back.
use Rattle.std.proofs.Common.{ap, arith}
use Rattle.cell_four_slot.proofs.Slots.{bit_low}
use Rattle.cell_four_slot.proofs.Spread.{stores_spread}
use Rattle.cell_four_slot.proofs.table.FourSlotTable.store.Goals as goal

pub store-requires : goal.store-requires
store-requires g c =
    let t = c.requires.filled in (
      c.requires.own,
      (let l = bit_low t.0.slot.pair in
          let w = t.3 in
          let s = c.args.self.now.sized in
          omega arith),
      stores_spread g.T.Lawful.fits g.T.Lawful.rises _ _ _ _ t.0 _ _ (ap (λ m. m.0) t.1) (ap (λ m. m.1) t.1) t.2 t.3 t.4,
    )
