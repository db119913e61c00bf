-- The record of a receipt is shown already.
use Rattle.std.proofs.Common.{ap, arith}
use Rattle.cell_four_slot.proofs.Keeps.{hears_ok}
use Rattle.cell_four_slot.proofs.Spread.{spread_joins}
use Rattle.cell_four_slot.proofs.table.FourSlotTable.hear.Goals as goal

pub join_seat-requires : goal.join_seat-requires
join_seat-requires g c =
    let t = c.requires.idle in
    let u = c.requires.receipt in (
      c.requires.own.0,
      c.requires.own.1,
      ap (λ m. m.1) u.1,
      (let s = c.args.self.now.sized in
          omega arith),
      spread_joins g.T.Lawful.fits g.T.Lawful.rises _ _ _ _ _ _ _
          (hears_ok g.T.Lawful.fits g.T.Lawful.rises _ _ _ _ _ t.0 u.0 t.1 (ap (λ m. m.0) u.1) t.2),
    )
