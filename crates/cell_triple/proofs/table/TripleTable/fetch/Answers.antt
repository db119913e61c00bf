-- The slot in the middle has the record written last.
use Rattle.std.proofs.Common.{ap, arith}
use Rattle.cell_triple.proofs.Keeps.{gets}
use Rattle.cell_triple.proofs.table.TripleTable.fetch.Goals as goal

pub swap-requires : goal.swap-requires
swap-requires g c =
    let t = c.requires.marked in (
      c.requires.own,
      (let s = c.args.self.now.sized in
          omega arith),
      gets g.T.Lawful.fits g.T.Lawful.rises _ g.T.Lawful.reflexive g.T.Lawful.transitive _ _ _ t.0 _ (ap (λ m. m.0) t.1)
          (ap (λ m. m.1) t.1) t.2 t.3 t.4,
    )
