-- Some passes of a board together, whose other ones were lost. Atomic orders are L. Lamport's, On Interprocess
-- Communication, Parts I and II, Distributed Computing 1, 1986; pending operations are M. Herlihy's and J. Wing's,
-- Linearizability: A Correctness Condition for Concurrent Objects, ACM Transactions on Programming Languages and
-- Systems 12, 1990.
use Rattle.std.specs.Prelude.{◌≡◌, Bool, ℕ, List, slice_get, Some}
use Rattle.cell_contract.specs.declared.family.Family.{Ghosts as FamilyWords}
use Rattle.board_history.specs.BoardRuns.{Called, Did}
use Rattle.board_history.specs.HistoriesSoFar.{IsAtomicRunSoFar}
use Rattle.board_live.specs.declared.board.Board.{Board}
use Rattle.board_live.specs.declared.board.Pass.{Pass}
use Rattle.board_live.specs.declared.record.Posted.{Posted}
use Rattle.board_live.specs.Passes.{did_of, HasMade, IsPass}

module _ {V F S T : Type 0} (words : FamilyWords F (Posted V) S T) where
  -- passes of the board, in whatever order
  abbrev pub SomePasses : (V → Bool) → Board V F S T → List (Pass V F S T) → Type 0
  SomePasses obeys board passes =
      (x : ℕ) (p : Pass V F S T) → slice_get passes x ≡ Some p → IsPass words obeys board p

  -- these calls were made with the passes, each by the number of its pass's process
  abbrev pub HaveMade : Board V F S T → List (Pass V F S T) → (ℕ → List (Called V)) → Type 0
  HaveMade board passes calls =
      (x : ℕ) (p : Pass V F S T) → slice_get passes x ≡ Some p → HasMade words board p (calls p.process)

  -- *An atomic order with these passes*: the processes of the passes made these calls, each other process made some,
  -- ended or cut off at whatever step, and all of them together are an atomic run so far
  pub record HasOrderWith (board : Board V F S T) (passes : List (Pass V F S T))
      (calls : ℕ → List (Called V)) : Type 0 where
    pub steps : List ℕ
    pub did : ℕ → Did V
    pub own : (x : ℕ) (p : Pass V F S T) → slice_get passes x ≡ Some p →
        did p.process ≡ did_of words p.seat (calls p.process)
    pub atomic : IsAtomicRunSoFar words.width board.processes board.limit board.first.item steps did

  -- *Atomic with these passes*: whatever calls were made with them, there are calls of the others with which they have
  -- an atomic order
  abbrev pub HaveAtomicOrderWith : Board V F S T → List (Pass V F S T) → Type 0
  HaveAtomicOrderWith board passes =
      (calls : ℕ → List (Called V)) → HaveMade board passes calls → HasOrderWith board passes calls
