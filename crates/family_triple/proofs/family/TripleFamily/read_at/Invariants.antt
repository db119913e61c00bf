-- The step that decides the read is told what the family opened with.
use Rattle.std.proofs.Common.{[], ◌∷◌}
use Rattle.family_triple.proofs.family.TripleFamily.read_at.Given as goal

abbrev pub ghosts-newest : goal.ghosts-newest
ghosts-newest g a =
    let key = a.table.now.rows.inner.shared.key in
    record { first = key.first ∷ []; processes = key.processes; limit = key.limit }
