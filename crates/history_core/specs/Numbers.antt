-- Orders by number: the law that every player's order rests on. It is this project's own, over Lamport's precedence.
use Rattle.std.specs.Prelude.{◌≡◌, ℕ, ◌<◌, ◌≤◌, true, false, List, slice_get, Some, IfSome}
use Rattle.history_core.specs.declared.history.Op.{Op}
use Rattle.history_core.specs.Orders.{Precedes, is_write}

-- an operation listed at place i of the order, with its place in the list of operations
abbrev pub StandsAt : {R : Type 0} → List (Op R) → List ℕ → ℕ → ℕ → Op R → Type 0
StandsAt ops order i p o = (slice_get order i ≡ Some p) × (slice_get ops p ≡ Some o)

-- an order by number, with a number for each place in the list of operations: the numbers never fall along precedence
-- nor along the order; of one number the write comes first, so there is at most one, and then the others by beginning;
-- none of these precedes the write; and no operation ends before it begins
pub record IsByNumber {R : Type 0} (number : ℕ → ℕ) (ops : List (Op R)) (order : List ℕ) : Type 0 where
  pub rises : (i j p q : ℕ) (a b : Op R) → StandsAt ops order i p a → StandsAt ops order j q b → Precedes a b →
      number p ≤ number q
  pub sorted : (i j p q : ℕ) (a b : Op R) → StandsAt ops order i p a → StandsAt ops order j q b → i < j →
      number p ≤ number q
  pub write_first : (i j p q : ℕ) (a b : Op R) → StandsAt ops order i p a → StandsAt ops order j q b → i < j →
      number p ≡ number q → is_write b.kind ≡ false
  pub by_beginning : (i j p q : ℕ) (a b : Op R) → StandsAt ops order i p a → StandsAt ops order j q b → i < j →
      number p ≡ number q → is_write a.kind ≡ false → a.starts ≤ b.starts
  pub after_write : (i j p q : ℕ) (a b : Op R) → StandsAt ops order i p a → StandsAt ops order j q b → i < j →
      number p ≡ number q → is_write a.kind ≡ true → ¬ Precedes b a
  pub forwards : (i p : ℕ) (a : Op R) → StandsAt ops order i p a → IfSome a.ends (λ end. a.starts ≤ end)
