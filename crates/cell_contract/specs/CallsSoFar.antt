-- All calls of a cell so far (operations as intervals, precedence and atomic orders are L. Lamport's, On
-- Interprocess Communication, Parts I and II, Distributed Computing 1, 1986; pending operations are M. Herlihy's and
-- J. Wing's, Linearizability: A Correctness Condition for Concurrent Objects, ACM Transactions on Programming
-- Languages and Systems 12, 1990).
use Rattle.std.specs.Prelude.{◌≡◌, ℕ, ◌+◌, ◌<◌, ◌≤◌, List, All, length, slice_get, Some}
use Rattle.history_core.specs.declared.history.Kind.{Kind}
use Rattle.history_core.specs.declared.history.Kind.TheVariants.{Write, Read}
use Rattle.history_core.specs.declared.history.Op.{Op}
use Rattle.history_core.specs.Orders.{IsAtomicOrder}
use Rattle.cell_contract.specs.Intervals.{AreFirst, At, InTurn}
use Rattle.cell_contract.specs.Running.{Rising}
use Rattle.cell_contract.specs.declared.times.Known.{Known}
use Rattle.cell_contract.specs.declared.times.Times.{Times}

module _ {T : Type 0} where
  -- the operation is this call of one side, by its number there: it has that call's interval, and its record
  pub record IsCallOf (kind : Kind) (items : List T) (times : Times) (call : ℕ) (op : Op T) : Type 0 where
    pub kind_is : op.kind ≡ kind
    pub item : op.item ≡ slice_get items call
    pub starts : At times.begins call op.starts
    pub ends : op.ends ≡ slice_get times.ends call

  -- the operations are first the writes and then the reads
  pub record AreCallsOf (written : List T) (writes : Times) (answers : List T) (reads : Times)
      (ops : List (Op T)) : Type 0 where
    pub many : length ops ≡ length written + length answers
    pub writes_first : (p : ℕ) (op : Op T) → slice_get ops p ≡ Some op → p < length written →
        IsCallOf Write written writes p op
    pub then_reads : (m : ℕ) (op : Op T) → slice_get ops (length written + m) ≡ Some op →
        IsCallOf Read answers reads m op

  -- *One order*: an atomic order of the writes and the reads. A write that is under way needn't stand there, but
  -- does where a read has its record
  pub record HaveOneOrder (opening : T) (written : List T) (writes : Times) (answers : List T)
      (reads : Times) : Type 0 where
    pub ops : List (Op T)
    pub order : List ℕ
    pub calls : AreCallsOf written writes answers reads ops
    pub atomic : IsAtomicOrder (λ x y. x ≡ y) opening ops order

  -- *All calls so far*, as a read ends: writes were begun in turn, the last of which may be under way, and they obey
  -- the records' law. They begin with those that each receipt told of, and with them all reads have one order
  pub record AreCallsSoFar (fits : T → Type 0) (rises : T → T → Type 0) (opening : T) (heard : List (Known T))
      (answers : List T) (reads : Times) : Type 0 where
    pub written : List T
    pub writes : Times
    pub lawful : Rising fits rises opening written
    pub in_turn : InTurn writes.begins writes.ends
    pub begun : length writes.begins ≡ length written
    pub ended : length written ≤ length writes.ends + 1
    pub told : All (λ t. AreFirst t written writes) heard
    pub order : HaveOneOrder opening written writes answers reads

  -- whatever was written: the answer of a read that began after another read had ended may stand after that one's
  abbrev pub LaterReadsRise : (T → Type 0) → (T → T → Type 0) → Type 0
  LaterReadsRise fits rises = (opening : T) (heard : List (Known T)) (answers : List T) (reads : Times)
      (i j e f s : ℕ) (a b : T) → AreCallsSoFar fits rises opening heard answers reads → slice_get answers i ≡ Some a →
      slice_get answers j ≡ Some b → At reads.ends i e → At reads.ends j f → At reads.begins j s → e < s → rises a b

  -- and that of one which began after a write had ended of which a receipt told may stand after the record written
  abbrev pub ReadsRiseFromReceipts : (T → Type 0) → (T → T → Type 0) → Type 0
  ReadsRiseFromReceipts fits rises = (opening : T) (heard : List (Known T)) (answers : List T)
      (reads : Times) (told : Known T) (n k j e f s : ℕ) (x b : T) →
      AreCallsSoFar fits rises opening heard answers reads → slice_get heard n ≡ Some told →
      slice_get told.items k ≡ Some x → At told.times.ends k e → slice_get answers j ≡ Some b → At reads.ends j f →
      At reads.begins j s → e < s → rises x b
