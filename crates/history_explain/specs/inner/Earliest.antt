-- The earliest points, one after the other: the latest beginning so far. Only private functions cite this, which is
-- this project's own; what points are stands in Points.
use Rattle.std.specs.Prelude.{◌≡◌, ℕ, ◌≤◌, max, List, [], ◌∷◌, slice_get, Option, None, Some, IfSome}
use Rattle.history_core.specs.declared.history.Op.{Op}

module _ {R : Type 0} where
  abbrev pub after_begin : ℕ → Option (Op R) → ℕ
  after_begin latest None = latest
  after_begin latest (Some o) = max latest o.starts

  abbrev pub begin_at : ℕ → List (Op R) → ℕ → ℕ
  begin_at latest ops place = after_begin latest (slice_get ops place)

  abbrev pub earliest : List (Op R) → ℕ → List ℕ → List ℕ
  earliest ops latest [] = []
  earliest ops latest (place ∷ order) = begin_at latest ops place ∷ earliest ops (begin_at latest ops place) order

  -- the operation at this place, if there is one, doesn't end before the point
  abbrev pub IsReached : List (Op R) → ℕ → ℕ → Type 0
  IsReached ops place point = IfSome (slice_get ops place) (λ o. IfSome o.ends (λ end. point ≤ end))

  abbrev pub AreReached : List (Op R) → List ℕ → List ℕ → Type 0
  AreReached ops order points =
      (i place point : ℕ) → slice_get order i ≡ Some place → slice_get points i ≡ Some point → IsReached ops place point
