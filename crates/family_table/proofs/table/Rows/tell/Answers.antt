-- A process at rest tells what it has done.
use Rattle.std.proofs.Common.{subst, sym}
use Rattle.atomic_table.specs.Table.{Splits}
use Rattle.family_table.specs.Seats.{told_by}
use Rattle.family_table.proofs.Receipts.{family_tells}
use Rattle.family_table.specs.Family.{FamilyRule}
use Rattle.family_table.proofs.table.Rows.tell.Goals as goal

pub split_seat-parted-requires : goal.split_seat-parted-requires
split_seat-parted-requires g c =
    let t = c.requires.idle in
    let n = c.args.self.now.inner.shared.key.processes in
    let o = c.args.self.now.inner.shared.key.first in
    let m = g.M.Mechanism in
    let R = m.keeps o in
    let P = m.plan o c.args.self.now.inner.shared.key.limit n in (
      c.requires.own,
      c.args.self.now.there,
      subst (λ z. Splits (FamilyRule m.blank (m.layout n) R P n) c.args.seat.now.inner.id z z (told_by m.receipt z)) (sym t.1)
          (family_tells m.blank m.receipt m.hears m.plain m.deaf m.mute (m.layout n) R P m.idle n (m.tells o)
          c.args.seat.now.inner.id t.0 t.2),
    )
