-- A log up to a moment: what ends later has no end yet.
use Rattle.std.specs.Prelude.{ℕ, suc, Bool, true, false, List, [], ◌∷◌, None}
use Rattle.object_core.specs.declared.operation.Operation.{Operation}

module _ {W : Type 0} where
  -- the operation with its end, or without
  abbrev pub without_end : Bool → Operation W → Operation W
  without_end true o = o
  without_end false o = record { starts = o.starts; ends = None; maybe = o.maybe; what = o.what }

  -- the log in which the operations at these places alone have an end
  abbrev pub cut_log : (ℕ → Bool) → List (Operation W) → List (Operation W)
  cut_log has [] = []
  cut_log has (o ∷ log) = without_end (has 0) o ∷ cut_log (λ place. has (suc place)) log
