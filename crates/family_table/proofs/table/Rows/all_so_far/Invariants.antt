-- The load is told what the family opened with.
use Rattle.std.proofs.Common.{[], ◌∷◌}
use Rattle.family_table.proofs.table.Rows.all_so_far.Given as goal

abbrev pub ghosts-load_all : goal.ghosts-load_all
ghosts-load_all g a =
    let key = a.self.now.inner.shared.key in
    record { first = key.first ∷ []; processes = key.processes; limit = key.limit }
