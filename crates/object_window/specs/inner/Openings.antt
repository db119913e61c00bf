-- Records that stand for all that a log may begin with. Only private functions cite this.
use Rattle.std.specs.Prelude.{◌≡◌, ℕ, true, List, slice_get, Option, None, Some}
use Rattle.object_core.specs.Logs.{IsLinearizable}
use Rattle.object_core.specs.declared.operation.Operation.{Operation}
use Rattle.object_registers.specs.Registers.{exchanging_after}
use Rattle.object_registers.specs.declared.exchanging.Exchange.{Exchange}
use Rattle.object_sweep.specs.Reached.{is_in}
use Rattle.object_window.specs.Losses.{asked_of, holding, IsLoss}
use Rattle.object_window.specs.declared.loss.Loss.{Loss}

-- each record that an operation of the log asks for is among these
abbrev pub HaveAsked : List (Operation Exchange) → List ℕ → Type 0
HaveAsked log records = (i value : ℕ) (o : Operation Exchange) → slice_get log i ≡ Some o →
    asked_of o.what ≡ Some value → is_in value records ≡ true

-- what has a lawful order from any record has one from one of these
abbrev pub StandForAll : List (Operation Exchange) → List ℕ → Type 0
StandForAll log records = (any : ℕ) → (i value : ℕ) × (slice_get records i ≡ Some value)
    × (IsLinearizable exchanging_after (holding any) log → IsLinearizable exchanging_after (holding value) log)

-- from this record the log has no lawful order, or what else is known
abbrev pub IsLossFrom : List (Operation Exchange) → ℕ → ℕ → Option Loss → Type 0
IsLossFrom log budget held None = ¬ IsLinearizable exchanging_after (holding held) log
IsLossFrom log budget held (Some loss) = IsLoss log budget loss

-- all that were there are, and the record that this operation asks for
abbrev pub HaveOneMore : List ℕ → List ℕ → Exchange → Type 0
HaveOneMore old new what = ((value : ℕ) → is_in value old ≡ true → is_in value new ≡ true)
    × ((value : ℕ) → asked_of what ≡ Some value → is_in value new ≡ true)
