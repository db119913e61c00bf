-- Points of an order: the picture of an atomic history in which each operation takes effect at one moment of
-- its interval, after M. Herlihy and J. Wing, Linearizability, ACM TOPLAS 12, 1990, where it is each
-- operation's linearization point.
use Rattle.std.specs.Prelude.{◌≡◌, ℕ, ◌≤◌, List, length, slice_get, Option, None, Some, IfSome}
use Rattle.history_core.specs.declared.history.Op.{Op}
use Rattle.history_core.specs.Orders.{listed_at}

-- a moment from a beginning to an end, where there is one
abbrev pub IsWithin : ℕ → Option ℕ → ℕ → Type 0
IsWithin starts None moment = starts ≤ moment
IsWithin starts (Some end) moment = (starts ≤ moment) × (moment ≤ end)

module _ {R : Type 0} where
  -- a point for each entry, that never falls along the order and lies in its operation's interval
  pub record ArePoints (ops : List (Op R)) (order points : List ℕ) : Type 0 where
    pub each : length points ≡ length order
    pub rise : (i j a b : ℕ) → i ≤ j → slice_get points i ≡ Some a → slice_get points j ≡ Some b → a ≤ b
    pub within : (i a : ℕ) (o : Op R) → slice_get points i ≡ Some a → listed_at ops order i ≡ Some o →
        IsWithin o.starts o.ends a

  abbrev pub HasPoints : List (Op R) → List ℕ → Type 0
  HasPoints ops order = (points : List ℕ) × ArePoints ops order points

  -- no listed operation ends before it begins
  abbrev pub AreForwards : List (Op R) → List ℕ → Type 0
  AreForwards ops order = (i : ℕ) (o : Op R) → listed_at ops order i ≡ Some o → IfSome o.ends (λ end. o.starts ≤ end)

  -- points of which none can lie earlier
  pub record AreEarliest (ops : List (Op R)) (order points : List ℕ) : Type 0 where
    pub are : ArePoints ops order points
    pub least : (others : List ℕ) → ArePoints ops order others → (i a b : ℕ) → slice_get points i ≡ Some a →
        slice_get others i ≡ Some b → a ≤ b
