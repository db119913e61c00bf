-- Windows of a log of a register with compare-and-set: some of its operations, as they are seen from one moment to
-- another (this project's own).
use Rattle.std.specs.Prelude.{◌≡◌, ℕ, ◌<◌, false, ◌||◌, nat_lt, nat_le, cond, List, length, slice_get}
use Rattle.std.specs.Prelude.{Option, None, Some, IsSomeAnd, ◌⊎◌}
use Rattle.object_core.specs.Logs.{IsLinearizable}
use Rattle.object_core.specs.declared.operation.Operation.{Operation}
use Rattle.object_registers.specs.Registers.{exchanging_after, Makes}
use Rattle.object_registers.specs.declared.exchanging.Exchange.{Exchange}
use Rattle.object_registers.specs.declared.exchanging.Exchange.TheVariants.{Sets, Gets, Swaps, Misses, Finds, Tries}
use Rattle.object_registers.specs.declared.exchanging.Exchange.TheVariants.{Refuses}
use Rattle.object_registers.specs.declared.exchanging.Exchanging.{Exchanging}
use Rattle.object_sweep.specs.Reached.{is_in}

-- no order of the log is lawful, whatever the register held before
abbrev pub IsLostAnywhere : List (Operation Exchange) → Type 0
IsLostAnywhere log = (opening : Exchanging) → ¬ IsLinearizable exchanging_after opening log

-- an end that comes later isn't seen
abbrev pub end_by : ℕ → Option ℕ → Option ℕ
end_by last None = None
end_by last (Some end) = cond (nat_le end last) (Some end) None

-- an operation as it is seen from one moment to another: one that began before may have taken effect before
abbrev pub seen : {W : Type 0} → (first last : ℕ) → Operation W → Operation W
seen first last o = record {
  starts = o.starts;
  ends = end_by last o.ends;
  maybe = o.maybe || nat_lt o.starts first;
  what = o.what;
}

-- these are the operations at the places, as they are seen
pub record AreSeen {W : Type 0} (first last : ℕ) (places : List ℕ) (log little : List (Operation W)) : Type 0 where
  pub long : length little ≡ length places
  pub each : (i p : ℕ) → slice_get places i ≡ Some p →
      (o : Operation W) × (slice_get log p ≡ Some o) × (slice_get little i ≡ Some (seen first last o))

abbrev pub DoRise : List ℕ → Type 0
DoRise places = (i j p q : ℕ) → i < j → slice_get places i ≡ Some p → slice_get places j ≡ Some q → p < q

-- whether an operation can be done, or what it does, may depend on whether this record is held
abbrev pub LooksAt : ℕ → Exchange → Type 0
LooksAt value (Sets to) = ⊥
LooksAt value (Gets seen) = seen ≡ value
LooksAt value (Swaps from to) = from ≡ value
LooksAt value (Misses from) = Unit
LooksAt value (Finds from found) = found ≡ value
LooksAt value (Tries from to) = from ≡ value
LooksAt value (Refuses seen) = seen ≡ value

-- no operation of the log looks at what this one leaves
abbrev pub IsUnseen : List (Operation Exchange) → Exchange → Type 0
IsUnseen log what =
    (value i : ℕ) (o : Operation Exchange) → Makes value what → slice_get log i ≡ Some o → ¬ LooksAt value o.what

-- an operation need not be there: it ended before the first moment, or began after the last one, or nothing that is
-- there looks at what it leaves
abbrev pub NeedNotBeThere : ℕ → ℕ → List (Operation Exchange) → Operation Exchange → Type 0
NeedNotBeThere first last little o =
    IsSomeAnd o.ends (λ end. end < first) ⊎ ((last < o.starts) ⊎ IsUnseen little o.what)

-- a window from the first moment to the last one: the operations at these places, where the others need not be there
pub record IsWindow (first last : ℕ) (places : List ℕ) (log little : List (Operation Exchange)) : Type 0 where
  pub rising : DoRise places
  pub there : AreSeen first last places log little
  pub others : (q : ℕ) (o : Operation Exchange) → slice_get log q ≡ Some o → is_in q places ≡ false →
      NeedNotBeThere first last little o
