-- The parts of a window. Only private functions cite this.
use Rattle.std.specs.Prelude.{◌≡◌, ℕ, ◌<◌, false, List, slice_get, Some}
use Rattle.object_core.specs.declared.operation.Operation.{Operation}
use Rattle.object_registers.specs.declared.exchanging.Exchange.{Exchange}
use Rattle.object_sweep.specs.Reached.{is_in}
use Rattle.object_window.specs.Windows.{LooksAt, NeedNotBeThere}

-- the others need not be there
abbrev pub AreOthersFree : ℕ → ℕ → List ℕ → List (Operation Exchange) → List (Operation Exchange) → Type 0
AreOthersFree first last places log little =
    (q : ℕ) (o : Operation Exchange) → slice_get log q ≡ Some o → is_in q places ≡ false →
    NeedNotBeThere first last little o

-- no operation of the log looks at this record
abbrev pub NothingLooksAt : List (Operation Exchange) → ℕ → Type 0
NothingLooksAt log value = (i : ℕ) (o : Operation Exchange) → slice_get log i ≡ Some o → ¬ LooksAt value o.what

abbrev pub IsLessAt : List ℕ → ℕ → ℕ → Type 0
IsLessAt places i j = (p q : ℕ) → slice_get places i ≡ Some p → slice_get places j ≡ Some q → p < q
