-- What a new board is, with its passes (this project's own).
use Rattle.std.specs.Prelude.{◌≡◌, Bool, IsTrue, ℕ, ◌<◌, ◌≤◌, List, [], length, slice_get, Some, Result, Ok, Err, Vec, true}
use Rattle.std.proofs.Common.{Global}
use Rattle.cell_contract.specs.declared.family.Family.{Ghosts as FamilyWords}
use Rattle.matrix_core.specs.Stamps.{first_stamp}
use Rattle.board_live.specs.declared.board.Board.{Board}
use Rattle.board_live.specs.declared.board.Pass.{Pass}
use Rattle.board_live.specs.declared.deals.BoardError.{BoardError}
use Rattle.board_live.specs.declared.deals.BoardError.TheVariants.{Processes, Limit, Opening, NoMemory}
use Rattle.board_live.specs.declared.record.Posted.{Posted}
use Rattle.board_live.specs.Passes.{HasMade, IsPass}

module _ {V F S T : Type 0} (words : FamilyWords F (Posted V) S T) where
  -- a board of n processes with this limit, which opened with this record, and the passes of all,
  -- with which no call was made yet, and whose own record, the opening, was told
  pub record IsNew (obeys : V → Bool) (n limit : ℕ) (first : Posted V) (board : Board V F S T)
      (passes : List (Pass V F S T)) : Type 0 where
    pub size : (2 ≤ n) × (n ≤ 16)
    pub count : (board.processes ≡ n) × (length passes ≡ n)
    pub limited : board.limit ≡ limit
    pub within : (1 ≤ limit) × (limit < 18446744073709551615)
    pub opened : board.first ≡ first
    pub each : (i : ℕ) (p : Pass V F S T) → slice_get passes i ≡ Some p →
        IsPass words obeys board p × (p.process ≡ i) × (p.own ≡ first) × HasMade words board p []
    pub told : (i : ℕ) (p : Pass V F S T) → slice_get passes i ≡ Some p → p.told ≡ true

  -- what `new` answers
  abbrev pub OpensWith : (V → Bool) → ℕ → ℕ → V → Result (Board V F S T × Vec (Pass V F S T) Global) BoardError → Type 0
  OpensWith obeys n limit opening (Ok r) =
      IsNew obeys n limit (record { stamp = first_stamp; item = opening }) r.0 r.1.items
  OpensWith obeys n limit opening (Err Processes) = (2 ≤ n) × (n ≤ 16) → ⊥
  OpensWith obeys n limit opening (Err Limit) = (2 ≤ n) × (n ≤ 16) × (1 ≤ limit × (limit < 18446744073709551615) → ⊥)
  OpensWith obeys n limit opening (Err Opening) =
      (2 ≤ n) × (n ≤ 16) × (1 ≤ limit) × (limit < 18446744073709551615) × (IsTrue (obeys opening) → ⊥)
  OpensWith obeys n limit opening (Err NoMemory) =
      (2 ≤ n) × (n ≤ 16) × (1 ≤ limit) × (limit < 18446744073709551615) × IsTrue (obeys opening)
