-- What a seat with no slots knows goes into another.
use Rattle.std.proofs.Common.{subst, sym, ap}
use Rattle.atomic_table.specs.Table.{Joins}
use Rattle.family_table.specs.declared.notes.View.{View}
use Rattle.family_table.specs.Seats.{joined, no_one}
use Rattle.family_table.proofs.Seats.{family_joins}
use Rattle.family_table.specs.Family.{FamilyRule}
use Rattle.family_table.proofs.table.Rows.put.Goals as goal

pub join_seat-requires : goal.join_seat-requires
join_seat-requires g c =
    let t = c.requires.some in
    let u = c.requires.bare in
    let n = c.args.self.now.inner.shared.key.processes in
    let o = c.args.self.now.inner.shared.key.first in
    let m = g.M.Mechanism in
    let R = m.keeps o in
    let P = m.plan o c.args.self.now.inner.shared.key.limit n in
    let id = c.args.seat.now.inner.id in
    let other = c.args.bare.inner.id in (
      c.requires.own.0,
      c.requires.own.1,
      ap (λ m. m.1) u.1,
      c.args.self.now.there,
      subst (λ (z : View g.row.V.Denot × View g.row.V.Denot).
          Joins (FamilyRule m.blank (m.layout n) R P n) id z.0 other z.1 (joined z.0 z.1) no_one)
          (λ i. (sym t.1 i, sym (ap (λ m. m.0) u.1) i)) (family_joins m.blank (m.layout n) R P n id other t.0 u.0),
    )
