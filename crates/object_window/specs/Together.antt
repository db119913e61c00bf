-- A log that is lost in a window of few operations (this project's own).
use Rattle.std.specs.Prelude.{◌≡◌, ℕ, List, slice_get, Some, IsSomeAnd}
use Rattle.object_core.specs.declared.operation.Operation.{Operation}
use Rattle.object_registers.specs.declared.exchanging.Exchange.{Exchange}
use Rattle.object_window.specs.Windows.{IsLostAnywhere, IsWindow}
use Rattle.object_window.specs.declared.find.Window.{Window}

-- the operation at this place ends then
abbrev pub HasItsEnd : List (Operation Exchange) → ℕ → ℕ → Type 0
HasItsEnd log place end = IsSomeAnd (slice_get log place) (λ o. o.ends ≡ Some end)

-- of the operations of this window alone no order is lawful, whatever the register held before, and the others need not
-- be there; its last moment is the end of the operation at this place
pub record IsLostTogether (log : List (Operation Exchange)) (place : ℕ) (window : Window) : Type 0 where
  pub little : List (Operation Exchange)
  pub is : IsWindow window.first window.last window.places.items log little
  pub lost : IsLostAnywhere little
  pub end : HasItsEnd log place window.last
