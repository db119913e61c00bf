-- Whether each record is written once. Only private functions cite this, which is this project's own.
use Rattle.std.specs.Prelude.{ℕ, List, Option, Some, nat_eq, if◌then◌else◌}
use Rattle.std.specs.Option.{option_and_then, option_map}
use Rattle.history_core.specs.declared.reason.SearchError.{SearchError}
use Rattle.history_core.specs.declared.reason.SearchError.TheVariants.{WritesOpening, WritesTwice}
use Rattle.history_coherence.specs.inner.Keys.{number_at}

-- what is wrong with a write of this record at a place, where the record was written last at this one
abbrev pub fault_by : ℕ → Option ℕ → ℕ → Option SearchError
fault_by x previous place =
    if nat_eq x 0 then Some (WritesOpening place) else option_map (λ first. WritesTwice first place) previous

abbrev pub fault_at : List (Option ℕ) → List (Option ℕ) → ℕ → Option SearchError
fault_at records previous place =
    option_and_then (λ x. fault_by x (number_at previous place) place) (number_at records place)
