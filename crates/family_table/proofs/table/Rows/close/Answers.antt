-- The last state shows what the seat's processes did.
use Rattle.family_table.proofs.Ends.{family_ends}
use Rattle.family_table.proofs.table.Rows.close.Goals as goal

pub returns : goal.returns
returns g c ps e =
    let m = g.M.Mechanism in
    family_ends m.blank m.layout m.keeps m.done m.ends _ _ _ _ _ ps _ _ e c.close_with.ensures.values.2
