-- The operations that are kept of a log (this project's own).
use Rattle.std.specs.Prelude.{ℕ, slice_get}
use Rattle.std.specs.Option.{option_map_or}
use Rattle.history_core.specs.declared.history.Term.{Term}
use Rattle.history_core.specs.declared.thinned.Thinned.{Thinned}

-- the limit of the one term
abbrev pub limit_of : Thinned → ℕ
limit_of thinned = option_map_or (λ (t : Term). t.limit) (slice_get thinned.history.terms 0) 1
