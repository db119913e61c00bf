-- Orders of a history: which operations they list, and when they are atomic. An order is a list of places in the list
-- of operations. Operations as intervals, precedence and atomic orders are those of L. Lamport, On Interprocess
-- Communication, Parts I and II, Distributed Computing 1, 1986; unfinished operations in an order, refused writes and
-- terms are this project's own.
use Rattle.std.specs.Prelude.{◌≡◌, ◌≢◌, ℕ, ◌+◌, ◌<◌, ◌≤◌, Bool, true, false, ◌&&◌, nat_eq, nat_lt}
use Rattle.std.specs.Prelude.{nat_le, List, length, take, drop}
use Rattle.std.specs.Prelude.{slice_get, Option, None, Some, IsSome, IsSomeAnd}
use Rattle.std.specs.List.{count_by, fold, list_all}
use Rattle.std.specs.Option.{option_and_then}
use Rattle.history_core.specs.declared.history.Op.{Op}
use Rattle.history_core.specs.declared.history.Term.{Term}
use Rattle.history_core.specs.declared.history.Kind.{Kind}
use Rattle.history_core.specs.declared.history.Kind.TheVariants.{Write, Read, Refused}
use Rattle.history_core.specs.declared.history.Verdict.{Verdict}
use Rattle.history_core.specs.declared.history.Verdict.TheVariants.{Lawful, Listing, Precedence, Reading, Limit}

-- a is finished, and ended before b began
abbrev pub Precedes : {R : Type 0} → Op R → Op R → Type 0
Precedes a b = IsSomeAnd a.ends (λ end. end < b.starts)

-- the operation that an order lists at place i
abbrev pub listed_at : {R : Type 0} → List (Op R) → List ℕ → ℕ → Option (Op R)
listed_at ops order i = option_and_then (slice_get ops) (slice_get order i)

-- an operation with this end and kind may be listed this many times: a finished one stands once, an unfinished write
-- at most once, an unfinished read or refused write never
abbrev pub MayStand : Option ℕ → Kind → ℕ → Type 0
MayStand (Some end) kind times = times ≡ 1
MayStand None Write times = times ≤ 1
MayStand None Read times = times ≡ 0
MayStand None Refused times = times ≡ 0

-- how often the order lists place p
abbrev pub times_of : ℕ → List ℕ → ℕ
times_of p order = count_by (λ q. nat_eq q p) order

-- every entry of the order is a place of an operation
abbrev pub ListsPlaces : {R : Type 0} → List (Op R) → List ℕ → Type 0
ListsPlaces ops order = (i p : ℕ) → slice_get order i ≡ Some p → p < length ops

-- every operation from place `from` up to place `to` is listed as often as it may be
abbrev pub EachStands : {R : Type 0} → List (Op R) → List ℕ → ℕ → ℕ → Type 0
EachStands {R} ops order from to =
    (p : ℕ) (o : Op R) → from ≤ p → p < to → slice_get ops p ≡ Some o → MayStand o.ends o.kind (times_of p order)

-- listing: every entry is a place, and every operation is listed as often as it may be
pub record IsListing {R : Type 0} (ops : List (Op R)) (order : List ℕ) : Type 0 where
  pub places : ListsPlaces ops order
  pub stands : EachStands ops order 0 (length ops)

-- of two different listed operations, one that precedes the other stands before it
abbrev pub KeepsPrecedence : {R : Type 0} → List (Op R) → List ℕ → Type 0
KeepsPrecedence {R} ops order =
    (i j : ℕ) (a b : Op R) → listed_at ops order i ≡ Some a → listed_at ops order j ≡ Some b → i ≢ j →
    Precedes a b → i < j

-- the record that an operation of this kind and item leaves, where there was r
abbrev pub left_by : {R : Type 0} → Option R → Kind → Option R → Option R
left_by r Write item = item
left_by r Read item = r
left_by r Refused item = r

-- the same for the operation at a place
abbrev pub left_at : {R : Type 0} → Option R → Option (Op R) → Option R
left_at r None = r
left_at r (Some o) = left_by r o.kind o.item

-- the latest record after this order: the item of its last write, or the opening where it has no write
abbrev pub latest : {R : Type 0} → R → List (Op R) → List ℕ → Option R
latest opening ops order = fold (λ r p. left_at r (slice_get ops p)) (Some opening) order

-- a listed operation has an item, and that of a read or a refused write is the same record as the latest
abbrev pub ReadsRight : {R : Type 0} → (R → R → Type 0) → Kind → Option R → Option R → Type 0
ReadsRight Same Write item before = IsSome item
ReadsRight Same Read item before = IsSomeAnd item (λ x. IsSomeAnd before (λ y. Same x y))
ReadsRight Same Refused item before = IsSomeAnd item (λ x. IsSomeAnd before (λ y. Same x y))

-- reading
abbrev pub ReadsLatest : {R : Type 0} → (R → R → Type 0) → R → List (Op R) → List ℕ → Type 0
ReadsLatest {R} Same opening ops order =
    (i : ℕ) (o : Op R) → listed_at ops order i ≡ Some o →
    ReadsRight Same o.kind o.item (latest opening ops (take i order))

-- an order is atomic
pub record IsAtomicOrder {R : Type 0} (Same : R → R → Type 0) (opening : R) (ops : List (Op R))
    (order : List ℕ) : Type 0 where
  pub listing : IsListing ops order
  pub precedence : KeepsPrecedence ops order
  pub reading : ReadsLatest Same opening ops order

-- place p belongs to the term t, which these later terms follow: p is not below t's first, and is below theirs
abbrev pub in_term : Term → List Term → ℕ → Bool
in_term t later p = nat_le t.first p && list_all (λ u. nat_lt p u.first) later

abbrev pub is_write : Kind → Bool
is_write Write = true
is_write Read = false
is_write Refused = false

abbrev pub is_write_at : {R : Type 0} → Option (Op R) → Bool
is_write_at None = false
is_write_at (Some o) = is_write o.kind

-- no operation that the order lists is a write
abbrev pub HasNoWrites : {R : Type 0} → List (Op R) → List ℕ → Type 0
HasNoWrites ops order = (i p : ℕ) → slice_get order i ≡ Some p → is_write_at (slice_get ops p) ≡ false

-- how many writes at such places the order lists
abbrev pub writes_in : {R : Type 0} → (ℕ → Bool) → List (Op R) → List ℕ → ℕ
writes_in within ops order = count_by (λ q. within q && is_write_at (slice_get ops q)) order

-- each refused write at such a place has the limit's number of the writes at such places before it, at least
abbrev pub KeepsLimit : {R : Type 0} → (ℕ → Bool) → ℕ → List (Op R) → List ℕ → Type 0
KeepsLimit {R} within limit ops order =
    (i p : ℕ) (o : Op R) → slice_get order i ≡ Some p → slice_get ops p ≡ Some o → o.kind ≡ Refused → within p ≡ true →
    limit ≤ writes_in within ops (take i order)

-- lawful refusal
abbrev pub RefusesLawfully : {R : Type 0} → List Term → List (Op R) → List ℕ → Type 0
RefusesLawfully terms ops order =
    (k : ℕ) (t : Term) → slice_get terms k ≡ Some t → KeepsLimit (in_term t (drop (k + 1) terms)) t.limit ops order

-- the verdict on an order: the first rule that it breaks, or lawful
abbrev pub IsVerdict : {R : Type 0} → (R → R → Type 0) → R → List Term → List (Op R) → List ℕ → Verdict → Type 0
IsVerdict Same opening terms ops order Lawful = IsAtomicOrder Same opening ops order × RefusesLawfully terms ops order
IsVerdict Same opening terms ops order Listing = ¬ IsListing ops order
IsVerdict Same opening terms ops order Precedence = IsListing ops order × ¬ KeepsPrecedence ops order
IsVerdict Same opening terms ops order Reading =
    IsListing ops order × KeepsPrecedence ops order × ¬ ReadsLatest Same opening ops order
IsVerdict Same opening terms ops order Limit =
    IsAtomicOrder Same opening ops order × ¬ RefusesLawfully terms ops order
