-- Tasks that do one operation after the other: what is linearizable is then sequentially consistent too, after L.
-- Lamport, How to Make a Multiprocessor Computer That Correctly Executes Multiprocess Programs, 1979, and M. Herlihy
-- and J. Wing, Linearizability, 1990.
use Rattle.std.specs.Prelude.{◌≡◌, ℕ, ◌<◌, List, slice_get, Some}
use Rattle.history_core.specs.declared.history.Op.{Op}
use Rattle.history_core.specs.Numbers.{StandsAt}
use Rattle.history_core.specs.Orders.{Precedes}

module _ {R : Type 0} where
  -- of two operations of one task the one that the log has first has ended before the other begins
  abbrev pub TasksTakeTurns : List (Op R) → Type 0
  TasksTakeTurns log =
      (p q : ℕ) (a b : Op R) → slice_get log p ≡ Some a → slice_get log q ≡ Some b → a.who ≡ b.who →
      p < q → Precedes a b

  -- an order has the operations of each task as the log has them
  abbrev pub KeepsTasks : List (Op R) → List ℕ → Type 0
  KeepsTasks log order =
      (i j p q : ℕ) (a b : Op R) → StandsAt log order i p a → StandsAt log order j q b → a.who ≡ b.who → p < q → i < j
