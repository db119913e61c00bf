-- Consequences of an atomic order and of lawful refusal, operation by operation (this project's own).
use Rattle.std.specs.Prelude.{◌≡◌, ◌≢◌, ℕ, ◌<◌, List, [], ◌∷◌, slice_get, take, None, Some}
use Rattle.history_core.specs.declared.history.Op.{Op}
use Rattle.history_core.specs.declared.history.Kind.TheVariants.{Write, Read, Refused}
use Rattle.history_core.specs.declared.history.Term.{Term}
use Rattle.history_core.specs.declared.history.Verdict.TheVariants.{Lawful, Listing, Precedence, Reading, Limit}
use Rattle.history_core.specs.Orders.{IsAtomicOrder, IsListing, IsVerdict, KeepsPrecedence, latest}
use Rattle.history_core.specs.Orders.{ReadsLatest, RefusesLawfully}

-- the operation at this place is the only write
abbrev pub IsOnlyWrite : {R : Type 0} → List (Op R) → ℕ → Type 0
IsOnlyWrite {R} ops p = (q : ℕ) (op : Op R) → slice_get ops q ≡ Some op → op.kind ≡ Write → q ≡ p

module _ (R : Type 0) where
  -- an operation that ended stands at one place of the order
  abbrev pub ListsEachOnce : Type 0
  ListsEachOnce = (opening : R) (ops : List (Op R)) (order : List ℕ) (p end : ℕ) (op : Op R) →
      IsAtomicOrder (λ x y. x ≡ y) opening ops order →
      slice_get ops p ≡ Some op → op.ends ≡ Some end →
      (i : ℕ) × (slice_get order i ≡ Some p) × ((j : ℕ) → slice_get order j ≡ Some p → j ≡ i)

  -- an entry of the order is an operation, and one that didn't end is a write
  abbrev pub ListsNothingElse : Type 0
  ListsNothingElse = (opening : R) (ops : List (Op R)) (order : List ℕ) (i p : ℕ) →
      IsAtomicOrder (λ x y. x ≡ y) opening ops order →
      slice_get order i ≡ Some p → (op : Op R) × (slice_get ops p ≡ Some op) × (op.ends ≡ None → op.kind ≡ Write)

  -- an operation that ended before another one began stands before it
  abbrev pub KeepsIntervals : Type 0
  KeepsIntervals = (opening : R) (ops : List (Op R)) (order : List ℕ) (i j p q end : ℕ) (a b : Op R) →
      IsAtomicOrder (λ x y. x ≡ y) opening ops order → slice_get order i ≡ Some p → slice_get order j ≡ Some q →
      slice_get ops p ≡ Some a → slice_get ops q ≡ Some b → p ≢ q → a.ends ≡ Some end → end < b.starts → i < j

  -- a read has the record that is there
  abbrev pub HasWhatIsThere : Type 0
  HasWhatIsThere = (opening : R) (ops : List (Op R)) (order : List ℕ) (i p : ℕ) (op : Op R) →
      IsAtomicOrder (λ x y. x ≡ y) opening ops order →
      slice_get order i ≡ Some p → slice_get ops p ≡ Some op → op.kind ≡ Read →
      (item : R) × (op.item ≡ Some item) × (latest opening ops (take i order) ≡ Some item)

  -- the only write had ended before the read began, and the read has another record: no order is atomic
  abbrev pub StaleIsAbsurd : Type 0
  StaleIsAbsurd = (opening : R) (ops : List (Op R)) (order : List ℕ) (p q end fin : ℕ) (write read : Op R) (stale : R) →
      slice_get ops p ≡ Some write → slice_get ops q ≡ Some read → write.kind ≡ Write → read.kind ≡ Read →
      IsOnlyWrite ops p → write.ends ≡ Some end → end < read.starts → read.ends ≡ Some fin → read.item ≡ Some stale →
      write.item ≢ Some stale → IsAtomicOrder (λ x y. x ≡ y) opening ops order → ⊥

  -- nothing is written, so no refused write stands in the order
  abbrev pub WaitsForTheLimit : Type 0
  WaitsForTheLimit = (limit : ℕ) (ops : List (Op R)) (order : List ℕ) (i p : ℕ) (op : Op R) → 0 < limit →
      RefusesLawfully (record { first = 0; limit = limit } ∷ []) ops order →
      ((q : ℕ) (o : Op R) → slice_get ops q ≡ Some o → o.kind ≢ Write) → slice_get order i ≡ Some p →
      slice_get ops p ≡ Some op → op.kind ≢ Refused

  -- an unfinished write stands at one place at most
  abbrev pub StandsOnceAtMost : Type 0
  StandsOnceAtMost = (opening : R) (ops : List (Op R)) (order : List ℕ) (p i j : ℕ) (op : Op R) →
      IsAtomicOrder (λ x y. x ≡ y) opening ops order →
      slice_get ops p ≡ Some op → op.ends ≡ None → op.kind ≡ Write → slice_get order i ≡ Some p →
      slice_get order j ≡ Some p → j ≡ i

  -- a refused write saw the record that is there, and a write has one
  abbrev pub SawWhatIsThere : Type 0
  SawWhatIsThere = (opening : R) (ops : List (Op R)) (order : List ℕ) (i p : ℕ) (op : Op R) →
      IsAtomicOrder (λ x y. x ≡ y) opening ops order →
      slice_get order i ≡ Some p → slice_get ops p ≡ Some op →
      (op.kind ≡ Refused → (item : R) × (op.item ≡ Some item) × (latest opening ops (take i order) ≡ Some item))
      × (op.kind ≡ Write → (item : R) × (op.item ≡ Some item))

  -- each verdict says which rules hold and which is broken
  abbrev pub VerdictsShow : Type 0
  VerdictsShow = (opening : R) (terms : List Term) (ops : List (Op R)) (order : List ℕ) →
      (IsVerdict (λ x y. x ≡ y) opening terms ops order Listing → IsListing ops order → ⊥)
      × (IsVerdict (λ x y. x ≡ y) opening terms ops order Precedence →
      IsListing ops order × (KeepsPrecedence ops order → ⊥))
      × (IsVerdict (λ x y. x ≡ y) opening terms ops order Reading →
      IsListing ops order × KeepsPrecedence ops order × (ReadsLatest (λ x y. x ≡ y) opening ops order → ⊥))
      × (IsVerdict (λ x y. x ≡ y) opening terms ops order Limit →
      IsAtomicOrder (λ x y. x ≡ y) opening ops order × (RefusesLawfully terms ops order → ⊥))
      × (IsVerdict (λ x y. x ≡ y) opening terms ops order Lawful →
      IsAtomicOrder (λ x y. x ≡ y) opening ops order × RefusesLawfully terms ops order)
