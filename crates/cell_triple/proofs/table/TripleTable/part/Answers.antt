-- The two parts of the whole view keep the rule.
use Rattle.std.proofs.Common.{arith}
use Rattle.cell_triple.proofs.Keeps.{parts_at}
use Rattle.cell_triple.proofs.table.TripleTable.part.Goals as goal

pub split_seat-parted-requires : goal.split_seat-parted-requires
split_seat-parted-requires g c =
    let t = c.requires.whole in
    (c.requires.own, (let s = c.args.self.now.sized in omega arith), parts_at g.T.Lawful.fits g.T.Lawful.rises _ _ _ t.0 t.1 t.2)
