-- The load is told what the family opened with.
use Rattle.std.proofs.Common.{[], ◌∷◌}
use Rattle.family_table.proofs.table.Rows.so_far.Given as goal

abbrev pub ghosts-load_calls : goal.ghosts-load_calls
ghosts-load_calls g a =
    let key = a.self.now.inner.shared.key in
    record { first = key.first ∷ []; processes = key.processes; limit = key.limit }
