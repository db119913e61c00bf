-- Passes with which nothing was done yet (this project's own).
use Rattle.std.specs.Prelude.{◌≡◌, Bool, ℕ, [], true}
use Rattle.cell_contract.specs.declared.family.Family.{Ghosts as FamilyWords}
use Rattle.board_live.specs.declared.board.Board.{Board}
use Rattle.board_live.specs.declared.board.Pass.{Pass}
use Rattle.board_live.specs.declared.record.Posted.{Posted}
use Rattle.board_live.specs.Passes.{HasMade, IsPass}

module _ {V F S T : Type 0} (family : FamilyWords F (Posted V) S T) where
  -- a pass of this process with which no call was made yet, whose own record, the opening, was told
  pub record IsFresh (obeys : V → Bool) (board : Board V F S T) (process : ℕ) (pass : Pass V F S T) : Type 0 where
    pub of : IsPass family obeys board pass
    pub who : pass.process ≡ process
    pub none : HasMade family board pass []
    pub told : pass.told ≡ true
