-- The filled slot goes into the middle.
use Rattle.std.proofs.Common.{ap, arith}
use Rattle.cell_triple.proofs.Keeps.{puts}
use Rattle.cell_triple.proofs.table.TripleTable.publish.Goals as goal

pub swap-requires : goal.swap-requires
swap-requires g c =
    let t = c.requires.filled in (
      c.requires.own,
      (let s = c.args.self.now.sized in
          omega arith),
      puts g.T.Lawful.fits g.T.Lawful.rises _ _ _ _ t.0 t.1 _ (ap (λ m. m.0) t.2) (ap (λ m. m.1) t.2) t.3 t.4 t.5 t.6,
    )
