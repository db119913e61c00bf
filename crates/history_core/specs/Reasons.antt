-- Why a history has no lawful order, where each record is written once and none is the opening: after P. Gibbons and E.
-- Korach, Testing Shared Memories, SIAM J. Computing 26, 1997, for reads that name their writes. Refused writes and the
-- limit are this project's own. Places are those of the operations.
use Rattle.std.specs.Prelude.{◌≡◌, ℕ, ◌<◌, ◌≤◌, Bool, true, false, ◌||◌, List, take, slice_get}
use Rattle.std.specs.Prelude.{Some, IsSome, is_some, IsSomeAnd}
use Rattle.history_core.specs.declared.history.Op.{Op}
use Rattle.history_core.specs.declared.history.Kind.TheVariants.{Refused}
use Rattle.history_core.specs.Orders.{IsAtomicOrder, is_write, Precedes, writes_in}
use Rattle.history_core.specs.declared.reason.Reason.{Reason}
use Rattle.history_core.specs.declared.reason.Reason.TheVariants.{Unwritten, Early, Stale, Crossed, Limit}

-- an operation counts where it is finished, or a write
abbrev pub counts : {R : Type 0} → Op R → Bool
counts o = is_some o.ends || is_write o.kind

-- both operations have a record, and the same
abbrev pub OfOneRecord : {R : Type 0} → (R → R → Type 0) → Op R → Op R → Type 0
OfOneRecord Same a b = IsSomeAnd a.item (λ x. IsSomeAnd b.item (λ y. Same x y))

-- the record of an operation is the opening
abbrev pub IsOfOpening : {R : Type 0} → (R → R → Type 0) → R → Op R → Type 0
IsOfOpening Same opening o = IsSomeAnd o.item (λ x. Same x opening)

-- a finished operation whose record is neither the opening nor written: a read or refused
-- write, or a write without a record
pub record IsUnwritten {R : Type 0} (Same : R → R → Type 0) (opening : R) (ops : List (Op R)) (read : ℕ) : Type 0 where
  pub op : Op R
  pub at : slice_get ops read ≡ Some op
  pub finished : IsSome op.ends
  pub opened : ¬ IsOfOpening Same opening op
  pub written : (w : ℕ) (a : Op R) → slice_get ops w ≡ Some a → is_write a.kind ≡ true → ¬ OfOneRecord Same op a

-- a read or refused write that precedes the write of its record
pub record IsEarly {R : Type 0} (Same : R → R → Type 0) (ops : List (Op R)) (read write : ℕ) : Type 0 where
  pub op : Op R
  pub source : Op R
  pub at : slice_get ops read ≡ Some op
  pub source_at : slice_get ops write ≡ Some source
  pub answers : is_write op.kind ≡ false
  pub writes : is_write source.kind ≡ true
  pub one : OfOneRecord Same op source
  pub precedes : Precedes op source

-- a finished read or refused write of the opening, which an operation of another record precedes
pub record IsStale {R : Type 0} (Same : R → R → Type 0) (opening : R) (ops : List (Op R))
    (before read : ℕ) : Type 0 where
  pub other : Op R
  pub op : Op R
  pub other_at : slice_get ops before ≡ Some other
  pub at : slice_get ops read ≡ Some op
  pub finished : IsSome op.ends
  pub opened : IsOfOpening Same opening op
  pub another : ¬ IsOfOpening Same opening other
  pub precedes : Precedes other op

-- a precedes b, and c precedes d; a and d are of one record, b and c of another, and neither is the opening
pub record IsCrossed {R : Type 0} (Same : R → R → Type 0) (opening : R) (ops : List (Op R)) (a b c d : ℕ) : Type 0 where
  pub op_a : Op R
  pub op_b : Op R
  pub op_c : Op R
  pub op_d : Op R
  pub at_a : slice_get ops a ≡ Some op_a
  pub at_b : slice_get ops b ≡ Some op_b
  pub at_c : slice_get ops c ≡ Some op_c
  pub at_d : slice_get ops d ≡ Some op_d
  pub counts_b : counts op_b ≡ true
  pub counts_d : counts op_d ≡ true
  pub first : Precedes op_a op_b
  pub second : Precedes op_c op_d
  pub one : OfOneRecord Same op_a op_d
  pub other : OfOneRecord Same op_b op_c
  pub apart : ¬ OfOneRecord Same op_a op_b
  pub one_opened : ¬ IsOfOpening Same opening op_a
  pub other_opened : ¬ IsOfOpening Same opening op_b

-- an entry up to this one is a refused write with fewer writes before it than the limit
pub record IsRefusedUpTo {R : Type 0} (limit : ℕ) (ops : List (Op R)) (order : List ℕ) (entry : ℕ) : Type 0 where
  pub early : ℕ
  pub place : ℕ
  pub op : Op R
  pub up_to : early ≤ entry
  pub listed : slice_get order early ≡ Some place
  pub at : slice_get ops place ≡ Some op
  pub refused : op.kind ≡ Refused
  pub few : writes_in (λ _. true) ops (take early order) < limit

-- some order that keeps listing, precedence and reading has this place with fewer writes before it than the limit
pub record MayHaveFew {R : Type 0} (Same : R → R → Type 0) (opening : R) (limit : ℕ) (ops : List (Op R))
    (place : ℕ) : Type 0 where
  pub order : List ℕ
  pub atomic : IsAtomicOrder Same opening ops order
  pub entry : ℕ
  pub listed : slice_get order entry ≡ Some place
  pub few : writes_in (λ _. true) ops (take entry order) < limit

-- a finished refused write: of the orders that keep listing, precedence and reading one has it with fewer writes before
-- it than the limit, and each has it, or a refused write before it, with so few
pub record IsLimited {R : Type 0} (Same : R → R → Type 0) (opening : R) (limit : ℕ) (ops : List (Op R))
    (place : ℕ) : Type 0 where
  pub op : Op R
  pub at : slice_get ops place ≡ Some op
  pub finished : IsSome op.ends
  pub refused : op.kind ≡ Refused
  pub may : MayHaveFew Same opening limit ops place
  pub few : (order : List ℕ) → IsAtomicOrder Same opening ops order → (i : ℕ) → slice_get order i ≡ Some place →
      IsRefusedUpTo limit ops order i

-- a reason is one by its rule
abbrev pub IsReason : {R : Type 0} → (R → R → Type 0) → R → ℕ → List (Op R) → Reason → Type 0
IsReason Same opening limit ops (Unwritten read) = IsUnwritten Same opening ops read
IsReason Same opening limit ops (Early read write) = IsEarly Same ops read write
IsReason Same opening limit ops (Stale before read) = IsStale Same opening ops before read
IsReason Same opening limit ops (Crossed a b c d) = IsCrossed Same opening ops a b c d
IsReason Same opening limit ops (Limit refused) = IsLimited Same opening limit ops refused

-- the rules in their order
abbrev pub rule_of : Reason → ℕ
rule_of (Unwritten read) = 1
rule_of (Early read write) = 2
rule_of (Stale before read) = 3
rule_of (Crossed a b c d) = 4
rule_of (Limit refused) = 5
