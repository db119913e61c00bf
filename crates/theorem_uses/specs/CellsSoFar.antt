-- Consequences of what a read shows of all calls of its cell so far (this project's own).
use Rattle.std.specs.Prelude.{ℕ, ◌≤◌, [], ◌∷◌}
use Rattle.cell_contract.specs.CallsSoFar.{AreCallsSoFar}
use Rattle.cell_contract.specs.Intervals.{known_as}
use Rattle.theorem_uses.specs.Cells.{one_call, two_calls}

-- of numbers that never fall a read can't answer 7 after another read had 8, whatever was written; nor
-- after the receipt of a write of 8
abbrev pub StaleAnswersAreAbsurd : Type 0
StaleAnswersAreAbsurd =
    (AreCallsSoFar {T = ℕ} (λ _. Unit {0}) (λ a b. a ≤ b) 7 [] (8 ∷ 7 ∷ []) (two_calls 2 4 5 6) → ⊥)
    × (AreCallsSoFar {T = ℕ} (λ _. Unit {0}) (λ a b. a ≤ b) 7 (known_as (8 ∷ []) (one_call 1 3) ∷ []) (7 ∷ [])
    (one_call 5 6) → ⊥)
