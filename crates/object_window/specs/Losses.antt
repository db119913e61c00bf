-- Whether a log has a lawful order from some record or other (this project's own).
use Rattle.std.specs.Prelude.{◌≡◌, ◌≢◌, ℕ, List, slice_get, Option, None, Some}
use Rattle.object_core.specs.Logs.{IsLinearizable}
use Rattle.object_core.specs.declared.operation.Operation.{Operation}
use Rattle.object_registers.specs.Registers.{exchanging_after}
use Rattle.object_registers.specs.declared.exchanging.Exchange.{Exchange}
use Rattle.object_registers.specs.declared.exchanging.Exchange.TheVariants.{Sets, Gets, Swaps, Misses, Finds, Tries}
use Rattle.object_registers.specs.declared.exchanging.Exchange.TheVariants.{Refuses}
use Rattle.object_registers.specs.declared.exchanging.Exchanging.{Exchanging}
use Rattle.object_sweep.specs.Reached.{AreTooMany}
use Rattle.object_window.specs.Windows.{IsLostAnywhere}
use Rattle.object_window.specs.declared.loss.Loss.{Loss}
use Rattle.object_window.specs.declared.loss.Loss.TheVariants.{Anywhere, NotFrom, TooMany}

abbrev pub holding : ℕ → Exchanging
holding value = record { held = value }

-- the record that an operation asks for
abbrev pub asked_of : Exchange → Option ℕ
asked_of (Sets to) = None
asked_of (Gets seen) = Some seen
asked_of (Swaps from to) = Some from
asked_of (Misses from) = Some from
asked_of (Finds from found) = Some found
asked_of (Tries from to) = Some from
asked_of (Refuses seen) = Some seen

-- no operation of the log asks for this record
abbrev pub IsUnasked : List (Operation Exchange) → ℕ → Type 0
IsUnasked log value = (i : ℕ) (o : Operation Exchange) → slice_get log i ≡ Some o → asked_of o.what ≢ Some value

-- what is known of the records that a log may begin with
abbrev pub IsLoss : List (Operation Exchange) → ℕ → Loss → Type 0
IsLoss log budget Anywhere = IsLostAnywhere log
IsLoss log budget (NotFrom held) = IsLinearizable exchanging_after (holding held) log
IsLoss log budget (TooMany held place) = AreTooMany exchanging_after (holding held) log budget place
