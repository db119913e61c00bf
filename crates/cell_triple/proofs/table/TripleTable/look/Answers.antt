-- The load changes the notes alone.
use Rattle.std.proofs.Common.{arith}
use Rattle.cell_triple.proofs.Keeps.{looks}
use Rattle.cell_triple.proofs.table.TripleTable.look.Goals as goal

pub load-requires : goal.load-requires
load-requires g c =
    let t = c.requires.idle in (
      c.requires.own,
      (let s = c.args.self.now.sized in
          omega arith),
      looks g.T.Lawful.fits g.T.Lawful.rises _ g.T.Lawful.reflexive g.T.Lawful.transitive _ _ _ t.0 t.1 t.2,
    )
