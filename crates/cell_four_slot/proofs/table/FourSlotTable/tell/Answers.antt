-- Between two writes the last finished record is shown, so a receipt may name it.
use Rattle.std.proofs.Common.{arith}
use Rattle.cell_four_slot.proofs.Keeps.{tells_ok}
use Rattle.cell_four_slot.proofs.Spread.{spread_splits}
use Rattle.cell_four_slot.proofs.table.FourSlotTable.tell.Goals as goal

pub split_seat-parted-requires : goal.split_seat-parted-requires
split_seat-parted-requires g c =
    let t = c.requires.idle in (
      c.requires.own,
      (let s = c.args.self.now.sized in omega arith),
      spread_splits g.T.Lawful.fits g.T.Lawful.rises _ _ _ _ _ (tells_ok g.T.Lawful.fits g.T.Lawful.rises _ _ _ t.0 t.1 t.2),
    )
