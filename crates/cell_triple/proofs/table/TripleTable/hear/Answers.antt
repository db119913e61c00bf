-- The record of a receipt stands in the list.
use Rattle.std.proofs.Common.{ap, arith}
use Rattle.cell_triple.proofs.Keeps.{hears_at}
use Rattle.cell_triple.proofs.table.TripleTable.hear.Goals as goal

pub join_seat-requires : goal.join_seat-requires
join_seat-requires g c =
    let t = c.requires.reader in
    let u = c.requires.receipt in (
      c.requires.own.0,
      c.requires.own.1,
      ap (λ m. m.1) u.1,
      (let s = c.args.self.now.sized in
          omega arith),
      hears_at g.T.Lawful.fits g.T.Lawful.rises _ _ _ _ _ t.0 u.0 t.1 (ap (λ m. m.0) u.1),
    )
