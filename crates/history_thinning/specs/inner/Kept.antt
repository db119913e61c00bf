-- What is kept of each record, while a log is read. Only callers' invariants and private functions cite this, which is
-- this project's own; what is kept at the end stands in Thinnings.
use Rattle.std.specs.Prelude.{◌≡◌, ℕ, ◌<◌, ◌≤◌, ◌⊎◌, true, List, length, map, slice_get, Option, None, Some, IsSome}
use Rattle.std.specs.Prelude.{IsSomeAnd, nat_lt, if◌then◌else◌}
use Rattle.history_core.specs.declared.history.Op.{Op}
use Rattle.history_core.specs.declared.history.Kind.{Kind}
use Rattle.history_core.specs.declared.history.Kind.TheVariants.{Write, Read, Refused}
use Rattle.history_core.specs.Orders.{is_write}
use Rattle.history_core.specs.Reasons.{counts}
use Rattle.history_core.specs.Searches.{AreForwards, WritesOnce}
use Rattle.history_thinning.specs.declared.group.Placed.{Placed}
use Rattle.history_thinning.specs.declared.group.Roles.{Roles}
use Rattle.history_thinning.specs.declared.thinner.Thinner.{Thinner}
use Rattle.history_thinning.specs.Thinnings.{Equal}

-- the operations that are kept of one record: its write, the first to end of those that are finished, the last to begin
-- of those that are finished or the write, and a finished refused write
pub record Group : Type 0 where
  pub write : Option Placed
  pub first : Option Placed
  pub last : Option Placed
  pub refused : Option Placed

abbrev pub latest_write : Option Placed → Placed → Kind → Option Placed
latest_write kept placed Write = Some placed
latest_write kept placed Read = kept
latest_write kept placed Refused = kept

abbrev pub latest_refused : Option Placed → Placed → Kind → Option Placed
latest_refused kept placed Refused = Some placed
latest_refused kept placed Write = kept
latest_refused kept placed Read = kept

abbrev pub end_of : Option Placed → Option ℕ
end_of None = None
end_of (Some m) = m.op.ends

-- the first to end, where the kept one ends then and the new one then
abbrev pub first_of : Option Placed → Placed → Option ℕ → ℕ → Option Placed
first_of kept placed None end = Some placed
first_of kept placed (Some least) end = if nat_lt end least then Some placed else kept

abbrev pub earlier_end : Option Placed → Placed → Option ℕ → Option Placed
earlier_end kept placed None = kept
earlier_end kept placed (Some end) = first_of kept placed (end_of kept) end

abbrev pub later_begin : Option Placed → Placed → Option Placed
later_begin None placed = Some placed
later_begin (Some m) placed = if nat_lt m.op.starts placed.op.starts then Some placed else Some m

-- a group with one more operation
abbrev pub joined_group : Group → Placed → Group
joined_group group placed = record {
  write = latest_write group.write placed placed.op.kind;
  first = earlier_end group.first placed placed.op.ends;
  last = later_begin group.last placed;
  refused = latest_refused group.refused placed placed.op.kind;
}

abbrev pub empty_group : Group
empty_group = record { write = None; first = None; last = None; refused = None }

-- what is kept is an operation of the log that counts, with its place, and has this record
pub record IsPlaced (log : List (Op ℕ)) (number : ℕ) (kept : Placed) : Type 0 where
  pub at : slice_get log kept.place ≡ Some kept.op
  pub item : kept.op.item ≡ Some number
  pub counted : counts kept.op ≡ true

-- what is kept of a record is of the log
pub record IsGroup (log : List (Op ℕ)) (number : ℕ) (group : Group) : Type 0 where
  pub write : (m : Placed) → group.write ≡ Some m → IsPlaced log number m × (is_write m.op.kind ≡ true)
  pub first : (m : Placed) → group.first ≡ Some m → IsPlaced log number m × IsSome m.op.ends
  pub last : (m : Placed) → group.last ≡ Some m → IsPlaced log number m
  pub refused : (m : Placed) → group.refused ≡ Some m → IsPlaced log number m × IsSome m.op.ends × (m.op.kind ≡ Refused)

-- what is kept of the record of an operation stands for it
pub record StandsFor (group : Group) (p : ℕ) (o : Op ℕ) : Type 0 where
  pub write : is_write o.kind ≡ true → (m : Placed) × (group.write ≡ Some m) × (m.place ≡ p)
  pub first : (end : ℕ) → o.ends ≡ Some end →
      (m : Placed) × (group.first ≡ Some m) × IsSomeAnd m.op.ends (λ least. least ≤ end)
  pub last : (m : Placed) × (group.last ≡ Some m) × (o.starts ≤ m.op.starts)
  pub refused : o.kind ≡ Refused → (m : Placed) × (group.refused ≡ Some m)

-- the group of the record of an operation stands for it
pub record IsStoodFor (groups : List Group) (p : ℕ) (o : Op ℕ) : Type 0 where
  pub number : ℕ
  pub group : Group
  pub item : o.item ≡ Some number
  pub at : slice_get groups number ≡ Some group
  pub stands : StandsFor group p o

-- groups of a log so far
pub record AreKept (log : List (Op ℕ)) (groups : List Group) : Type 0 where
  pub each : (number : ℕ) (group : Group) → slice_get groups number ≡ Some group → IsGroup log number group
  pub all : (p : ℕ) (o : Op ℕ) → slice_get log p ≡ Some o → counts o ≡ true → IsStoodFor groups p o
  pub forwards : (n : ℕ) → AreForwards log n
  pub once : (n : ℕ) → WritesOnce Equal 0 log n

-- the index that stands for no operation: 2^32 - 1
abbrev pub nowhere : ℕ
nowhere = 4294967295

abbrev pub placed_of : Option (Op ℕ) → Option ℕ → Option Placed
placed_of None place = None
placed_of (Some o) None = None
placed_of (Some o) (Some place) = Some (record { op = o; place = place })

-- the operation at an index, with its place in the log
abbrev pub placed_at : List (Op ℕ) → List ℕ → ℕ → Option Placed
placed_at ops places index = placed_of (slice_get ops index) (slice_get places index)

-- the group of a record with these roles
abbrev pub group_at : List (Op ℕ) → List ℕ → Roles → Group
group_at ops places roles = record {
  write = placed_at ops places roles.write;
  first = placed_at ops places roles.first;
  last = placed_at ops places roles.last;
  refused = placed_at ops places roles.refused;
}

abbrev pub groups_at : List (Op ℕ) → List ℕ → List Roles → List Group
groups_at ops places roles = map (group_at ops places) roles

abbrev pub IsIndex : ℕ → ℕ → Type 0
IsIndex n index = (index < n) ⊎ (index ≡ nowhere)

-- each role is that of one of the first n operations, or of none
pub record AreWithin (n : ℕ) (roles : Roles) : Type 0 where
  pub write : IsIndex n roles.write
  pub first : IsIndex n roles.first
  pub last : IsIndex n roles.last
  pub refused : IsIndex n roles.refused

-- operations of a log, at rising places
pub record AreRows (log : List (Op ℕ)) (ops : List (Op ℕ)) (places : List ℕ) : Type 0 where
  pub long : length places ≡ length ops
  pub few : length ops ≤ nowhere
  pub are : (i p : ℕ) (o : Op ℕ) → slice_get places i ≡ Some p → slice_get ops i ≡ Some o → slice_get log p ≡ Some o
  pub rise : (i j p q : ℕ) → i < j → slice_get places i ≡ Some p → slice_get places j ≡ Some q → p < q

-- operations of a log, and which of them are kept of each record
pub record AreThinned (log ops : List (Op ℕ)) (places : List ℕ) (roles : List Roles) : Type 0 where
  pub rows : AreRows log ops places
  pub within : (number : ℕ) (own : Roles) → slice_get roles number ≡ Some own → AreWithin (length ops) own
  pub kept : AreKept log (groups_at ops places roles)

abbrev pub HasRoles : List (Op ℕ) → List (Op ℕ) → List ℕ → Type 0
HasRoles log ops places = (roles : List Roles) × AreThinned log ops places roles

-- a log has been entered
abbrev pub IsThinning : List (Op ℕ) → Thinner → Type 0
IsThinning log thinner = AreThinned log thinner.rows.ops.items thinner.rows.places.items thinner.roles.items
