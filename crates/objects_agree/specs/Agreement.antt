-- A history of a register as a log of one: the same operations at the same places (this project's own).
use Rattle.std.specs.Prelude.{◌≡◌, ℕ, Bool, false, ◌&&◌, List, map, slice_get, Option, None, Some, IsSome, is_some}
use Rattle.std.specs.List.{filter}
use Rattle.history_core.specs.declared.history.Kind.{Kind}
use Rattle.history_core.specs.declared.history.Kind.TheVariants.{Write, Read, Refused}
use Rattle.history_core.specs.declared.history.Op.{Op}
use Rattle.history_core.specs.Reasons.{counts}
use Rattle.object_core.specs.declared.operation.Operation.{Operation}
use Rattle.object_registers.specs.declared.exchanging.Exchange.{Exchange}
use Rattle.object_registers.specs.declared.exchanging.Exchange.TheVariants.{Sets, Gets}
use Rattle.object_registers.specs.declared.limited.Access.{Access}
use Rattle.object_registers.specs.declared.limited.Access.TheVariants.{Writes, Reads, IsRefused}

-- every operation that ended has a record
abbrev pub HaveRecords : List (Op ℕ) → Type 0
HaveRecords ops = (p : ℕ) (o : Op ℕ) → slice_get ops p ≡ Some o → IsSome o.ends → IsSome o.item

-- an operation as one of an object, by what its record and kind do
abbrev pub as_operation : {W : Type 0} → (Option ℕ → Kind → W) → Op ℕ → Operation W
as_operation does o = record {
  starts = o.starts;
  ends = o.ends;
  maybe = false;
  what = does o.item o.kind;
}

-- What it does to a register that refuses writes. An operation without a record is a read of the opening: where it
-- never ended it stands in no lawful order of the history, and may be left out of one of the log.
abbrev pub access_of : ℕ → Option ℕ → Kind → Access
access_of opening None kind = Reads opening
access_of opening (Some x) Write = Writes x
access_of opening (Some x) Read = Reads x
access_of opening (Some x) Refused = IsRefused x

abbrev pub accesses : ℕ → List (Op ℕ) → List (Operation Access)
accesses opening ops = map (as_operation (access_of opening)) ops

-- and to one with compare-and-set, which refuses none
abbrev pub exchange_of : ℕ → Option ℕ → Kind → Exchange
exchange_of opening None kind = Gets opening
exchange_of opening (Some x) Write = Sets x
exchange_of opening (Some x) Read = Gets x
exchange_of opening (Some x) Refused = Gets x

abbrev pub exchanges : ℕ → List (Op ℕ) → List (Operation Exchange)
exchanges opening ops = map (as_operation (exchange_of opening)) ops

abbrev pub NoneIsRefused : List (Op ℕ) → Type 0
NoneIsRefused ops = (p : ℕ) (o : Op ℕ) → slice_get ops p ≡ Some o → ¬ (o.kind ≡ Refused)

-- an operation can stand in a lawful order of a history: it is finished, or a write, and has a record
abbrev pub can_stand : Op ℕ → Bool
can_stand o = counts o && is_some o.item

abbrev pub can_stand_at : Option (Op ℕ) → Bool
can_stand_at None = false
can_stand_at (Some o) = can_stand o

-- an order without the others
abbrev pub those_that_stand : List (Op ℕ) → List ℕ → List ℕ
those_that_stand ops order = filter (λ p. can_stand_at (slice_get ops p)) order
