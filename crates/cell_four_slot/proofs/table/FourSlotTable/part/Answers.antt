-- The two parts of the whole view keep the rule.
use Rattle.std.proofs.Common.{arith}
use Rattle.cell_four_slot.proofs.Keeps.{parts_ok}
use Rattle.cell_four_slot.proofs.Spread.{spread_splits}
use Rattle.cell_four_slot.proofs.table.FourSlotTable.part.Goals as goal

pub split_seat-parted-requires : goal.split_seat-parted-requires
split_seat-parted-requires g c =
    let t = c.requires.whole in (
      c.requires.own,
      (let s = c.args.self.now.sized in omega arith),
      spread_splits g.T.Lawful.fits g.T.Lawful.rises _ _ _ _ _ (parts_ok g.T.Lawful.fits g.T.Lawful.rises _ _ _ t.0 t.1 t.2),
    )
