-- The load of the pair's word takes the slot that it names.
use Rattle.std.proofs.Common.{ap, arith}
use Rattle.cell_four_slot.proofs.Slots.{bit_low}
use Rattle.cell_four_slot.proofs.Spread.{takes_spread}
use Rattle.cell_four_slot.proofs.table.FourSlotTable.take.Goals as goal

pub load-requires : goal.load-requires
load-requires g c =
    let t = c.requires.said in (
      c.requires.own,
      (let l = bit_low t.0.slot.pair in
          let w = t.3 in
          let s = c.args.self.now.sized in
          omega arith),
      takes_spread g.T.Lawful.fits g.T.Lawful.rises _ g.T.Lawful.reflexive g.T.Lawful.transitive _ _ _ t.0 _ (ap (λ m. m.0) t.1)
          (ap (λ m. m.1) t.1) t.2 t.3,
    )
