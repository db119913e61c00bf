-- A process at rest learns a receipt.
use Rattle.std.proofs.Common.{subst, sym, ap}
use Rattle.atomic_table.specs.Table.{Joins}
use Rattle.family_table.specs.declared.notes.View.{View}
use Rattle.family_table.specs.Seats.{learnt_by, no_one}
use Rattle.family_table.proofs.Receipts.{family_learns}
use Rattle.family_table.specs.Family.{FamilyRule}
use Rattle.family_table.proofs.table.Rows.hear.Goals as goal

pub join_seat-requires : goal.join_seat-requires
join_seat-requires g c =
    let t = c.requires.idle in
    let u = c.requires.receipt in
    let n = c.args.self.now.inner.shared.key.processes in
    let o = c.args.self.now.inner.shared.key.first in
    let m = g.M.Mechanism in
    let R = m.keeps o in
    let P = m.plan o c.args.self.now.inner.shared.key.limit n in (
      c.requires.own.0,
      c.requires.own.1,
      ap (λ m. m.1) u.1,
      c.args.self.now.there,
      subst (λ (z : View g.row.V.Denot × View g.row.V.Denot). Joins
          (FamilyRule m.blank (m.layout n) R P n) c.args.seat.now.inner.id z.0 c.args.receipt.inner.id z.1
          (learnt_by m.hears z.0 z.1) no_one) (λ i. (sym t.1 i, sym (ap (λ m. m.0) u.1) i))
          (family_learns m.blank m.receipt m.hears m.plain m.deaf m.mute (m.layout n) R P m.idle n (m.learns o)
          (m.stays o c.args.self.now.inner.shared.key.limit n) c.args.seat.now.inner.id c.args.receipt.inner.id t.0 u.0 t.2),
    )
