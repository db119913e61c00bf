-- The reader's first slot is at home until this load.
use Rattle.std.proofs.Common.{ap, arith}
use Rattle.cell_triple.proofs.Keeps.{get_takes}
use Rattle.cell_triple.proofs.table.TripleTable.take_get.Goals as goal

pub load-requires : goal.load-requires
load-requires g c =
    let t = c.requires.bare in (
      c.requires.own,
      (let s = c.args.self.now.sized in
          omega arith),
      get_takes g.T.Lawful.fits g.T.Lawful.rises _ _ _ _ t.0 (ap (λ m. m.0) t.1) (ap (λ m. m.1) t.1) t.2,
    )

pub returns-clause-taken : goal.returns-clause-taken
returns-clause-taken g c = λ q is. let u = c.load.ensures.2 q is in λ i. (u.0 i, u.1 i)
