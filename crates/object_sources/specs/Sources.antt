-- Where an operation of a register with compare-and-set can have its record from: two reasons of P. Gibbons and E.
-- Korach, Testing Shared Memories, SIAM J. Computing 26, 1997, for records that repeat.
use Rattle.std.specs.Prelude.{◌≡◌, ◌≢◌, ◌⊎◌, ℕ, ◌<◌, ◌≤◌, true, List, slice_get, Option, None, Some}
use Rattle.object_core.specs.declared.operation.Operation.{Operation}
use Rattle.object_core.specs.Logs.{is_due, Precedes}
use Rattle.object_registers.specs.Registers.{found_by, Makes}
use Rattle.object_registers.specs.declared.exchanging.Exchange.{Exchange}
use Rattle.object_sources.specs.declared.source.Unsourced.{Unsourced}
use Rattle.object_sources.specs.declared.source.Unsourced.TheVariants.{Unwritten, Early}

-- an operation is sure to have found this record, which isn't the opening
pub record HasFoundAnother (opening value : ℕ) (o : Operation Exchange) : Type 0 where
  pub due : is_due o ≡ true
  pub found : found_by o.what ≡ Some value
  pub another : value ≢ opening

-- a source of a record: the operation at this place can leave it
pub record MayLeave (log : List (Operation Exchange)) (value source : ℕ) : Type 0 where
  pub op : Operation Exchange
  pub at : slice_get log source ≡ Some op
  pub makes : Makes value op.what

-- the operation at this place has found a record that none can leave
pub record IsFoundUnwritten (opening : ℕ) (log : List (Operation Exchange)) (place : ℕ) : Type 0 where
  pub op : Operation Exchange
  pub value : ℕ
  pub at : slice_get log place ≡ Some op
  pub found : HasFoundAnother opening value op
  pub none : (q : ℕ) → ¬ MayLeave log value q

-- the operation at this place has found a record that none could leave by then: this is the source that began first, of
-- several that at the least place, and it began later
pub record IsFoundEarly (opening : ℕ) (log : List (Operation Exchange)) (place source : ℕ) : Type 0 where
  pub op : Operation Exchange
  pub value : ℕ
  pub at : slice_get log place ≡ Some op
  pub found : HasFoundAnother opening value op
  pub leaves : MayLeave log value source
  pub precedes : Precedes op leaves.op
  pub first : (q : ℕ) (other : MayLeave log value q) →
      (leaves.op.starts < other.op.starts) ⊎ ((leaves.op.starts ≡ other.op.starts) × (source ≤ q))

-- for which of the two reasons the operation at this place can't have found its record; none if for neither
abbrev pub IsUnsourced : ℕ → List (Operation Exchange) → ℕ → Option Unsourced → Type 0
IsUnsourced opening log place None =
    (¬ IsFoundUnwritten opening log place) × ((source : ℕ) → ¬ IsFoundEarly opening log place source)
IsUnsourced opening log place (Some Unwritten) = IsFoundUnwritten opening log place
IsUnsourced opening log place (Some (Early source)) = IsFoundEarly opening log place source
