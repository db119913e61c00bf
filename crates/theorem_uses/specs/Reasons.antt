-- Consequences of a reason and of a fault, operation by operation (this project's own).
use Rattle.std.specs.Prelude.{◌≡◌, ◌≢◌, ℕ, ◌<◌, ◌≤◌, true, false, List, [], ◌∷◌, slice_get, take, Some, IsSome}
use Rattle.history_core.specs.declared.history.Op.{Op}
use Rattle.history_core.specs.declared.history.Term.{Term}
use Rattle.history_core.specs.declared.history.Kind.TheVariants.{Refused}
use Rattle.history_core.specs.Orders.{IsAtomicOrder, is_write, writes_in}
use Rattle.history_core.specs.declared.reason.Reason.TheVariants.{Unwritten, Early, Stale, Crossed, Limit}
use Rattle.history_core.specs.declared.reason.Search.{Search}
use Rattle.history_core.specs.declared.reason.SearchError.TheVariants.{Terms, Backwards, WritesOpening, WritesTwice}
use Rattle.history_core.specs.Reasons.{counts, IsReason}
use Rattle.history_core.specs.Searches.{IsAnswered, IsFault}

module _ (R : Type 0) where
  -- the record of a finished operation isn't the opening, and no write has it
  abbrev pub UnwrittenShows : Type 0
  UnwrittenShows = (opening : R) (limit : ℕ) (ops : List (Op R)) (read : ℕ) →
      IsReason (λ x y. x ≡ y) opening limit ops (Unwritten read) →
      (op : Op R) × (slice_get ops read ≡ Some op) × IsSome op.ends × (op.item ≢ Some opening)
      × ((w : ℕ) (a : Op R) (x : R) → slice_get ops w ≡ Some a → is_write a.kind ≡ true →
      a.item ≡ Some x → op.item ≢ Some x)

  -- an operation that is no write had ended before the write of its record began
  abbrev pub EarlyShows : Type 0
  EarlyShows = (opening : R) (limit : ℕ) (ops : List (Op R)) (read write : ℕ) →
      IsReason (λ x y. x ≡ y) opening limit ops (Early read write) →
      (op : Op R) × (source : Op R) × (slice_get ops read ≡ Some op) × (slice_get ops write ≡ Some source)
      × (is_write op.kind ≡ false) × (is_write source.kind ≡ true)
      × ((x : R) × (op.item ≡ Some x) × (source.item ≡ Some x))
      × ((end : ℕ) × (op.ends ≡ Some end) × (end < source.starts))

  -- a finished operation has the opening, and one of another record had ended before it began
  abbrev pub StaleShows : Type 0
  StaleShows = (opening : R) (limit : ℕ) (ops : List (Op R)) (before read : ℕ) →
      IsReason (λ x y. x ≡ y) opening limit ops (Stale before read) →
      (other : Op R) × (op : Op R) × (slice_get ops before ≡ Some other)
      × (slice_get ops read ≡ Some op) × IsSome op.ends
      × (op.item ≡ Some opening) × (other.item ≢ Some opening)
      × ((end : ℕ) × (other.ends ≡ Some end) × (end < op.starts))

  -- of two records, neither the opening, each has an operation that had ended before one of the other began
  abbrev pub CrossedShows : Type 0
  CrossedShows = (opening : R) (limit : ℕ) (ops : List (Op R)) (a b c d : ℕ) →
      IsReason (λ x y. x ≡ y) opening limit ops (Crossed a b c d) →
      (op_a : Op R) × (op_b : Op R) × (op_c : Op R) × (op_d : Op R) × (x : R) × (y : R)
      × (slice_get ops a ≡ Some op_a) × (slice_get ops b ≡ Some op_b) × (slice_get ops c ≡ Some op_c)
      × (slice_get ops d ≡ Some op_d)
      × (counts op_b ≡ true) × (counts op_d ≡ true)
      × ((end : ℕ) × (op_a.ends ≡ Some end) × (end < op_b.starts))
      × ((end : ℕ) × (op_c.ends ≡ Some end) × (end < op_d.starts))
      × (op_a.item ≡ Some x) × (op_d.item ≡ Some x) × (op_b.item ≡ Some y) × (op_c.item ≡ Some y)
      × (x ≢ y) × (x ≢ opening) × (y ≢ opening)

  -- a finished refused write, before which every atomic order has a refused write too early, if it isn't that itself;
  -- and in some atomic order it is
  abbrev pub LimitedShows : Type 0
  LimitedShows = (opening : R) (limit : ℕ) (ops : List (Op R)) (place : ℕ) →
      IsReason (λ x y. x ≡ y) opening limit ops (Limit place) →
      (op : Op R) × (slice_get ops place ≡ Some op) × IsSome op.ends × (op.kind ≡ Refused)
      × ((order : List ℕ) (i : ℕ) → IsAtomicOrder (λ x y. x ≡ y) opening ops order → slice_get order i ≡ Some place →
      (j : ℕ) × (p : ℕ) × (o : Op R) × (j ≤ i) × (slice_get order j ≡ Some p) × (slice_get ops p ≡ Some o)
      × (o.kind ≡ Refused) × (writes_in (λ _. true) ops (take j order) < limit))
      × ((order : List ℕ) × (i : ℕ) × IsAtomicOrder (λ x y. x ≡ y) opening ops order × (slice_get order i ≡ Some place)
      × (writes_in (λ _. true) ops (take i order) < limit))

  -- of an answered history no operation ends before it begins, no write has the opening, and no two have one record
  abbrev pub AnsweredHistoriesShow : Type 0
  AnsweredHistoriesShow = (opening : R) (terms : List Term) (ops : List (Op R)) (search : Search) (p q : ℕ)
      (a b : Op R) (x : R) → IsAnswered (λ x y. x ≡ y) opening terms ops search → slice_get ops p ≡ Some a →
      slice_get ops q ≡ Some b → a.item ≡ Some x →
      ((limit : ℕ) × (terms ≡ record { first = 0; limit = limit } ∷ []))
      × ((end : ℕ) → a.ends ≡ Some end → a.starts ≤ end)
      × (is_write a.kind ≡ true → x ≢ opening)
      × (is_write a.kind ≡ true → is_write b.kind ≡ true → p < q → b.item ≢ Some x)

  -- of the operations at places below n no write has the opening, and no two writes have one record
  abbrev pub WriteOnceBelow : R → List (Op R) → ℕ → Type 0
  WriteOnceBelow opening ops n = (p q : ℕ) (a b : Op R) (x : R) → p < q → q < n → slice_get ops p ≡ Some a →
      slice_get ops q ≡ Some b → is_write a.kind ≡ true → is_write b.kind ≡ true → a.item ≡ Some x →
      (x ≢ opening) × (b.item ≢ Some x)

  -- no operation at a place below n ends before it begins
  abbrev pub RunForwardsBelow : List (Op R) → ℕ → Type 0
  RunForwardsBelow ops n = (p end : ℕ) (a : Op R) → p < n → slice_get ops p ≡ Some a →
      a.ends ≡ Some end → a.starts ≤ end

  -- a fault is at the first place of its kind, and of none that comes before it
  abbrev pub FaultsShow : Type 0
  FaultsShow = (opening : R) (terms : List Term) (ops : List (Op R)) (place second : ℕ) →
      (IsFault (λ x y. x ≡ y) opening terms ops Terms → (limit : ℕ) → terms ≢ record { first = 0; limit = limit } ∷ [])
      × (IsFault (λ x y. x ≡ y) opening terms ops (Backwards place) →
      (op : Op R) × (end : ℕ) × (slice_get ops place ≡ Some op)
      × (op.ends ≡ Some end) × (end < op.starts) × RunForwardsBelow ops place)
      × (IsFault (λ x y. x ≡ y) opening terms ops (WritesOpening place) → (op : Op R) × (slice_get ops place ≡ Some op)
      × (is_write op.kind ≡ true) × (op.item ≡ Some opening) × WriteOnceBelow opening ops place
      × ((n : ℕ) → RunForwardsBelow ops n))
      × (IsFault (λ x y. x ≡ y) opening terms ops (WritesTwice place second) →
      (a : Op R) × (b : Op R) × (x : R) × (place < second)
      × (slice_get ops place ≡ Some a) × (slice_get ops second ≡ Some b) × (is_write a.kind ≡ true)
      × (is_write b.kind ≡ true)
      × (a.item ≡ Some x) × (b.item ≡ Some x) × WriteOnceBelow opening ops second × ((n : ℕ) → RunForwardsBelow ops n))
