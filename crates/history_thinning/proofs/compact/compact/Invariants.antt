-- The rows met so far are settled.
use Rattle.std.proofs.Common.{◌≡◌, ◌≤◌, List, length, ℕ}
use Rattle.history_core.specs.declared.history.Op.{Op}
use Rattle.history_thinning.specs.inner.Kept.{AreThinned, groups_at}
use Rattle.history_thinning.proofs.Compacted.{IsPartly}
use Rattle.history_thinning.proofs.compact.compact.Given as goal

abbrev pub invariant-loop-from : goal.invariant-loop-from
invariant-loop-from l =
    (length l.rows.ops.items ≡ length l.fn.rows.ops.items) × (length l.rows.places.items ≡ length l.fn.rows.places.items)
    × (l.used ≤ l.from) × ((log : List (Op ℕ)) → AreThinned log l.fn.rows.ops.items l.fn.rows.places.items l.fn.roles.items →
    IsPartly log (groups_at l.fn.rows.ops.items l.fn.rows.places.items l.fn.roles.items) (length l.fn.rows.ops.items) l.from l.used
    l.rows.ops.items l.rows.places.items l.roles.items)
