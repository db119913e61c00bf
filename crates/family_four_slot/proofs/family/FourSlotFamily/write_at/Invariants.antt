-- The first load is told the record of the write, and the last store what the family opened with.
use Rattle.std.proofs.Common.{[], ◌∷◌}
use Rattle.family_four_slot.proofs.family.FourSlotFamily.write_at.Given as goal

abbrev pub ghosts-begin : goal.ghosts-begin
ghosts-begin g a = record { item = a.item.value ∷ [] }

abbrev pub ghosts-publish : goal.ghosts-publish
ghosts-publish g a =
    let key = a.self.now.rows.inner.shared.key in
    record { first = key.first ∷ []; processes = key.processes; limit = key.limit }
