-- All that a seat knows goes to one with no slots, and from there into another.
use Rattle.std.proofs.Common.{[], ◌∙◌}
use Rattle.family_table.proofs.table.Rows.gather.Goals as goal

pub put-requires-clause-bare : goal.put-requires-clause-bare
put-requires-clause-bare g c =
    let u = c.requires.other in
    (u.0, c.lift-bare.ensures.lifted.1 ∙ (λ i. (u.1 i, [])))
