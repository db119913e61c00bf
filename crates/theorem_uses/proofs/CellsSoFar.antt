-- Later reads rise, also from the writes of which a receipt told.
use Rattle.std.proofs.Common.{ℕ, ◌≤◌, [], ◌∷◌, refl, le_refl, le_trans, arith}
use Rattle.cell_contract.specs.Intervals.{known_as}
use Rattle.cell_contract.proofs.Standing.{later_reads_rise, receipts_rise}
use Rattle.theorem_uses.specs.Cells.{one_call, two_calls}
use Rattle.theorem_uses.specs.CellsSoFar.{StaleAnswersAreAbsurd}

no_more : 8 ≤ 7 → ⊥
no_more l = omega arith

pub stale : StaleAnswersAreAbsurd
stale = (
  λ h. no_more (later_reads_rise {T = ℕ} (λ _. Unit {0}) (λ a b. a ≤ b) le_refl (λ a b c. le_trans) 7 [] (8 ∷ 7 ∷ []) (two_calls 2 4 5 6)
      0 1 4 6 5 8 7 h refl refl refl refl refl (omega arith)),
  λ h. no_more (receipts_rise {T = ℕ} (λ _. Unit {0}) (λ a b. a ≤ b) le_refl (λ a b c. le_trans) 7 (known_as (8 ∷ []) (one_call 1 3) ∷ [])
      (7 ∷ []) (one_call 5 6) (known_as (8 ∷ []) (one_call 1 3)) 0 0 0 3 6 5 8 7 h refl refl refl refl refl refl (omega arith)),
)
