-- All calls of a board so far, of which one pass shows that they are atomic while the other processes go on. Atomic
-- orders are L. Lamport's, On Interprocess Communication, Parts I and II, Distributed Computing 1, 1986; pending
-- operations are M. Herlihy's and J. Wing's, Linearizability: A Correctness Condition for Concurrent Objects, ACM
-- Transactions on Programming Languages and Systems 12, 1990.
use Rattle.std.specs.Prelude.{◌≡◌, ℕ, List}
use Rattle.cell_contract.specs.declared.family.Family.{Ghosts as FamilyWords}
use Rattle.board_history.specs.BoardRuns.{Called, Did}
use Rattle.board_history.specs.HistoriesSoFar.{IsAtomicRunSoFar}
use Rattle.board_live.specs.declared.board.Board.{Board}
use Rattle.board_live.specs.declared.board.Pass.{Pass}
use Rattle.board_live.specs.declared.record.Posted.{Posted}
use Rattle.board_live.specs.Passes.{did_of, HasMade}

module _ {V F S T : Type 0} (words : FamilyWords F (Posted V) S T) where
  -- *An atomic order so far*: the pass's process made these calls, each other process made some, ended or cut off at
  -- whatever step, and all of them together are an atomic run so far
  pub record HasOrderSoFar (board : Board V F S T) (pass : Pass V F S T) (calls : List (Called V)) : Type 0 where
    pub steps : List ℕ
    pub did : ℕ → Did V
    pub own : did pass.process ≡ did_of words pass.seat calls
    pub atomic : IsAtomicRunSoFar words.width board.processes board.limit board.first.item steps did

  -- *Atomic so far*: whatever calls were made with the pass, there are calls of the others with which they have an
  -- atomic order so far
  abbrev pub HaveAtomicOrderSoFar : Board V F S T → Pass V F S T → Type 0
  HaveAtomicOrderSoFar board pass =
      (calls : List (Called V)) → HasMade words board pass calls → HasOrderSoFar board pass calls
