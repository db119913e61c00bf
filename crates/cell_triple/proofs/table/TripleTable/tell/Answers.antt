-- The record written last stands in the list.
use Rattle.std.proofs.Common.{arith}
use Rattle.cell_triple.proofs.Keeps.{tells_at}
use Rattle.cell_triple.proofs.table.TripleTable.tell.Goals as goal

pub split_seat-parted-requires : goal.split_seat-parted-requires
split_seat-parted-requires g c =
    let t = c.requires.writer in
    (c.requires.own, (let s = c.args.self.now.sized in omega arith), tells_at g.T.Lawful.fits g.T.Lawful.rises _ _ _ t.0 t.1)
