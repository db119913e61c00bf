-- The steps of registers: what each holds after an operation, where it may give its answer.
use Rattle.std.specs.Prelude.{◌≡◌, ◌≢◌, ℕ, ◌-◌, ◌&&◌, not, nat_eq, cond, List, slice_get, Option, None, Some}
use Rattle.object_core.specs.declared.operation.Operation.{Operation}
use Rattle.object_core.specs.Logs.{Precedes}
use Rattle.object_registers.specs.declared.exchanging.Exchange.{Exchange}
use Rattle.object_registers.specs.declared.exchanging.Exchange.TheVariants.{Sets, Gets, Swaps, Misses, Finds, Tries}
use Rattle.object_registers.specs.declared.exchanging.Exchange.TheVariants.{Refuses}
use Rattle.object_registers.specs.declared.exchanging.Exchanging.{Exchanging}
use Rattle.object_registers.specs.declared.limited.Access.{Access}
use Rattle.object_registers.specs.declared.limited.Access.TheVariants.{Writes, Reads, IsRefused}
use Rattle.object_registers.specs.declared.limited.Limited.{Limited}
use Rattle.object_registers.specs.declared.limited_exchanging.LimitedExchanging.{LimitedExchanging}

-- a register that refuses writes: only once none is due
abbrev pub limited_after : Limited → Access → Option Limited
limited_after s (Writes value) = Some (record { held = value; due = s.due - 1 })
limited_after s (Reads value) = cond (nat_eq s.held value) (Some s) None
limited_after s (IsRefused value) = cond (nat_eq s.held value && nat_eq s.due 0) (Some s) None

-- a register with compare-and-set, which may refuse any write
abbrev pub exchanging_after : Exchanging → Exchange → Option Exchanging
exchanging_after s (Sets value) = Some (record { held = value })
exchanging_after s (Gets value) = cond (nat_eq s.held value) (Some s) None
exchanging_after s (Swaps from to) = cond (nat_eq s.held from) (Some (record { held = to })) None
exchanging_after s (Misses from) = cond (nat_eq s.held from) None (Some s)
exchanging_after s (Finds from found) = cond (nat_eq s.held found && not (nat_eq from found)) (Some s) None
exchanging_after s (Tries from to) = Some (cond (nat_eq s.held from) (record { held = to }) s)
exchanging_after s (Refuses value) = cond (nat_eq s.held value) (Some s) None

-- behind a write of this record
abbrev pub written : LimitedExchanging → ℕ → LimitedExchanging
written s value = record { held = value; due = s.due - 1 }

-- one that refuses writes only once none is due: a compare-and-set that leaves its record is a write
abbrev pub limited_exchanging_after : LimitedExchanging → Exchange → Option LimitedExchanging
limited_exchanging_after s (Sets value) = Some (written s value)
limited_exchanging_after s (Gets value) = cond (nat_eq s.held value) (Some s) None
limited_exchanging_after s (Swaps from to) = cond (nat_eq s.held from) (Some (written s to)) None
limited_exchanging_after s (Misses from) = cond (nat_eq s.held from) None (Some s)
limited_exchanging_after s (Finds from found) = cond (nat_eq s.held found && not (nat_eq from found)) (Some s) None
limited_exchanging_after s (Tries from to) = Some (cond (nat_eq s.held from) (written s to) s)
limited_exchanging_after s (Refuses value) = cond (nat_eq s.held value && nat_eq s.due 0) (Some s) None

-- the same register with no limit
abbrev pub unlimited : LimitedExchanging → Exchanging
unlimited s = record { held = s.held }

-- at this place of the log is a write that didn't begin after the operation's end
abbrev pub IsWriteFor : Operation Access → List (Operation Access) → ℕ → Type 0
IsWriteFor o log q =
    (a : Operation Access) × (value : ℕ) × (slice_get log q ≡ Some a) × (¬ Precedes o a) × (a.what ≡ Writes value)

-- what can leave this record where another one was
abbrev pub Makes : ℕ → Exchange → Type 0
Makes value (Sets to) = to ≡ value
Makes value (Gets seen) = ⊥
Makes value (Swaps from to) = (to ≡ value) × (from ≢ value)
Makes value (Misses from) = ⊥
Makes value (Finds from found) = ⊥
Makes value (Tries from to) = (to ≡ value) × (from ≢ value)
Makes value (Refuses seen) = ⊥

-- the record that an operation found, if it says which
abbrev pub found_by : Exchange → Option ℕ
found_by (Sets to) = None
found_by (Gets seen) = Some seen
found_by (Swaps from to) = Some from
found_by (Misses from) = None
found_by (Finds from found) = Some found
found_by (Tries from to) = None
found_by (Refuses seen) = Some seen
