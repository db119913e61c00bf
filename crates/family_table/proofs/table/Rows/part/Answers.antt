-- The first process of a seat goes to a new one.
use Rattle.std.proofs.Common.{subst, sym}
use Rattle.atomic_table.specs.Table.{Splits}
use Rattle.family_table.specs.Seats.{all_but_first, first_of}
use Rattle.family_table.proofs.Seats.{parts_first}
use Rattle.family_table.specs.Family.{FamilyRule}
use Rattle.family_table.proofs.table.Rows.part.Goals as goal

pub split_seat-parted-requires : goal.split_seat-parted-requires
split_seat-parted-requires g c =
    let t = c.requires.some in
    let n = c.args.self.now.inner.shared.key.processes in
    let o = c.args.self.now.inner.shared.key.first in
    let m = g.M.Mechanism in
    let R = m.keeps o in
    let P = m.plan o c.args.self.now.inner.shared.key.limit n in (
      c.requires.own,
      c.args.self.now.there,
      subst (λ z. Splits (FamilyRule m.blank (m.layout n) R P n) c.args.seat.now.inner.id z (all_but_first z) (first_of z)) (sym t.2)
          (parts_first m.blank (m.layout n) R P n c.args.seat.now.inner.id t.0 t.1),
    )
