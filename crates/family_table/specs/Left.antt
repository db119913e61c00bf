-- What all processes of a family have done so far, of which some are known (this project's own).
use Rattle.std.specs.Prelude.{◌≡◌, ℕ, List, slice_get, Some}
use Rattle.cell_contract.specs.Accesses.{ReadAccesses, WriteAccesses}
use Rattle.cell_contract.specs.declared.said.Said.{Said}
use Rattle.cell_contract.specs.declared.said.Found.{Found}
use Rattle.cell_contract.specs.Plans.{AreSoFar, Doings, doings}

-- *With those that are left*: what all processes have done so far, in which the process of each of these seats has done
-- what is known of it, and its answers have the numbers that are known
pub record AreSoFarWith {T S : Type 0} (plan : ℕ → Doings T → Type 0) (opening : T) (n : ℕ) (who : S → ℕ)
    (times : S → List ℕ) (writes : S → ℕ → WriteAccesses T) (reads : S → ℕ → ReadAccesses T) (said : S → List Said)
    (found : S → List Found) (seats : List S) : Type 0 where
  pub one : S
  pub all : AreSoFar plan opening n (who one) (times one) (writes one) (reads one) (said one) (found one)
  pub each : (x : ℕ) (s : S) → slice_get seats x ≡ Some s →
      all.done (who s) ≡ doings (times s) (writes s) (reads s) (said s) (found s)
  pub numbers : (x i : ℕ) (s : S) → slice_get seats x ≡ Some s → all.numbers i (who s) ≡ (reads s i).numbers
