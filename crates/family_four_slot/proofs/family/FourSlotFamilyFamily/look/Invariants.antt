-- The load is told what the family opened with, and what is looked for.
use Rattle.std.proofs.Common.{[], ◌∷◌}
use Rattle.family_four_slot.proofs.family.FourSlotFamilyFamily.look.Given as goal

abbrev pub ghosts-look-K-Opening : goal.ghosts-look-K-Opening
ghosts-look-K-Opening g a =
    let key = a.self.now.inner.shared.key in
    record { first = key.first ∷ []; processes = key.processes; limit = key.limit }

abbrev pub ghosts-look-L-Looking : goal.ghosts-look-L-Looking
ghosts-look-L-Looking g a = record { from = a.from; tag = a.tag }
