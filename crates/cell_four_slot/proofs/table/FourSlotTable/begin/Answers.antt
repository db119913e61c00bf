-- The load of `reading` begins a write.
use Rattle.std.proofs.Common.{ap, arith}
use Rattle.cell_four_slot.proofs.Spread.{begins_spread}
use Rattle.cell_four_slot.proofs.table.FourSlotTable.begin.Goals as goal

pub load-requires : goal.load-requires
load-requires g c =
    let t = c.requires.idle in (
      c.requires.own,
      (let s = c.args.self.now.sized in
          omega arith),
      begins_spread g.T.Lawful.fits g.T.Lawful.rises _ _ _ _ t.0 _ c.args.item.value (ap (λ m. m.0) t.1) (ap (λ m. m.1) t.1) t.2
          c.requires.item t.3 t.4,
    )
