-- The swap is told what the family opened with.
use Rattle.std.proofs.Common.{[], ◌∷◌}
use Rattle.family_triple.proofs.family.TripleFamilyFamily.write_from.Given as goal

abbrev pub ghosts-publish : goal.ghosts-publish
ghosts-publish g a =
    let key = a.self.now.rows.inner.shared.key in
    record { first = key.first ∷ []; processes = key.processes; limit = key.limit }
