-- All that a seat knows goes to one with no slots.
use Rattle.std.proofs.Common.{subst, sym}
use Rattle.atomic_table.specs.Table.{Splits}
use Rattle.family_table.specs.Seats.{no_process, all_of}
use Rattle.family_table.proofs.Seats.{parts_all}
use Rattle.family_table.specs.Family.{FamilyRule}
use Rattle.family_table.proofs.table.Rows.lift.Goals as goal

pub split_seat-bare-requires : goal.split_seat-bare-requires
split_seat-bare-requires g c =
    let t = c.requires.some in
    let n = c.args.self.now.inner.shared.key.processes in
    let o = c.args.self.now.inner.shared.key.first in
    let m = g.M.Mechanism in
    let R = m.keeps o in
    let P = m.plan o c.args.self.now.inner.shared.key.limit n in (
      c.requires.own,
      c.args.self.now.there,
      subst (λ z. Splits (FamilyRule m.blank (m.layout n) R P n) c.args.seat.now.inner.id z (no_process z) (all_of z)) (sym t.1)
          (parts_all m.blank (m.layout n) R P n c.args.seat.now.inner.id t.0),
    )
