-- The last load is told what the family opened with.
use Rattle.std.proofs.Common.{[], ◌∷◌}
use Rattle.family_four_slot.proofs.family.FourSlotFamily.read_at.Given as goal

abbrev pub ghosts-newest : goal.ghosts-newest
ghosts-newest g a =
    let key = a.self.now.rows.inner.shared.key in
    record { first = key.first ∷ []; processes = key.processes; limit = key.limit }
