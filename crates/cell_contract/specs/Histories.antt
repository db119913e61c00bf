-- The calls of a cell as operations of a history, and their order by number. Histories and atomic orders are
-- L. Lamport's, On Interprocess Communication, Parts I and II, Distributed Computing 1, 1986; orders by
-- number are this project's own.
use Rattle.std.specs.Prelude.{◌≡◌, ◌⊎◌, ℕ, ◌+◌, ◌<◌, ◌≤◌, false, List, length, slice_get, Some}
use Rattle.history_core.specs.declared.history.Op.{Op}
use Rattle.history_core.specs.declared.history.Kind.TheVariants.{Write, Read}
use Rattle.history_core.specs.Numbers.{StandsAt}
use Rattle.history_core.specs.Orders.{is_write, ListsPlaces}
use Rattle.cell_contract.specs.declared.times.Times.{Times}
use Rattle.cell_contract.specs.Intervals.{At}

module _ {T : Type 0} where
  -- the operation is write number k, or read number m
  pub record IsWriteOp (written : List T) (writes : Times) (op : Op T) (k : ℕ) : Type 0 where
    pub kind : op.kind ≡ Write
    pub starts : At writes.begins k op.starts
    pub ends : op.ends ≡ slice_get writes.ends k
    pub item : op.item ≡ slice_get written k

  pub record IsReadOp (answers : List T) (reads : Times) (op : Op T) (m : ℕ) : Type 0 where
    pub kind : op.kind ≡ Read
    pub starts : At reads.begins m op.starts
    pub ends : op.ends ≡ slice_get reads.ends m
    pub item : op.item ≡ slice_get answers m

  -- the operations are the calls of the two passes, each at one place, with the number of each: of a write its own,
  -- from 1 on, and of a read that of its answer
  pub record AreOps (written : List T) (writes : Times) (answers : List T) (numbers : List ℕ) (reads : Times)
      (ops : List (Op T)) (number : ℕ → ℕ) : Type 0 where
    pub each : (p : ℕ) (op : Op T) → slice_get ops p ≡ Some op →
        ((k : ℕ) × IsWriteOp written writes op k × (number p ≡ k + 1))
        ⊎ ((m : ℕ) × (n : ℕ) × IsReadOp answers reads op m × At numbers m n × (number p ≡ n))
    pub all_writes : (k : ℕ) → k < length written →
        (p : ℕ) × (op : Op T) × (slice_get ops p ≡ Some op) × IsWriteOp written writes op k
        × (number p ≡ k + 1)
    pub all_reads : (m : ℕ) → m < length answers →
        (p : ℕ) × (op : Op T) × (slice_get ops p ≡ Some op) × IsReadOp answers reads op m

  -- the order by number lists each place once: of one number the write comes first, and then the reads by beginning
  pub record IsByNumbers (ops : List (Op T)) (number : ℕ → ℕ) (order : List ℕ) : Type 0 where
    pub places : ListsPlaces ops order
    pub once : (i j p : ℕ) → slice_get order i ≡ Some p → slice_get order j ≡ Some p → i ≡ j
    pub all : (p : ℕ) → p < length ops → (i : ℕ) × (slice_get order i ≡ Some p)
    pub sorted : (i j p q : ℕ) (a b : Op T) → StandsAt ops order i p a → StandsAt ops order j q b → i < j →
        (number p < number q)
        ⊎ ((number p ≡ number q) × (is_write b.kind ≡ false) × (is_write a.kind ≡ false → a.starts ≤ b.starts))
