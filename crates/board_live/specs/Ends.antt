-- A board that ends: the calls of all its passes together (atomic orders are L. Lamport's, On Interprocess
-- Communication, Parts I and II, Distributed Computing 1, 1986).
use Rattle.std.specs.Prelude.{◌≡◌, Bool, ℕ, ◌<◌, List, [], ◌∷◌, length, slice_get, Option, Some, None}
use Rattle.cell_contract.specs.declared.family.Family.{Ghosts as FamilyWords}
use Rattle.cell_contract.specs.Ends.{EachTwo, IsAtomicCell}
use Rattle.history_core.specs.declared.history.Op.{Op}
use Rattle.history_core.specs.Orders.{IsAtomicOrder, latest, RefusesLawfully}
use Rattle.matrix_core.specs.declared.stamp.Stamp.{Stamp}
use Rattle.matrix_core.specs.Choices.{IsAtMost}
use Rattle.matrix_core.specs.Stamps.{IsBelow}
use Rattle.matrix_core.specs.Listings.{IsInOrder}
use Rattle.matrix_core.specs.Lines.{first_record}
use Rattle.board_history.specs.BoardRuns.{Called, Did, IsBoardRun}
use Rattle.board_history.specs.Histories.{IsGreatestOwn, IsHistory}
use Rattle.board_live.specs.declared.board.Board.{Board}
use Rattle.board_live.specs.declared.board.Pass.{Pass}
use Rattle.board_live.specs.declared.record.Posted.{Posted}
use Rattle.board_live.specs.Passes.{did_of, HasMade, IsPass}
use Rattle.board_live.specs.Records.{stamped}

module _ {V F S T : Type 0} where
  -- the greatest of the records that the processes chose last, of equal stamps that of the smaller process
  pub record IsGreatest (passes : List (Pass V F S T)) (last : Posted V) : Type 0 where
    pub process : ℕ
    pub pass : Pass V F S T
    pub there : slice_get passes process ≡ Some pass
    pub own : last ≡ pass.own
    pub greatest : (i : ℕ) (p : Pass V F S T) → slice_get passes i ≡ Some p → IsAtMost p.own.stamp last.stamp
    pub earliest : (i : ℕ) (p : Pass V F S T) → i < process → slice_get passes i ≡ Some p →
        IsBelow p.own.stamp last.stamp

-- a pass but for the memory that it keeps for the board's end
abbrev pub standing : {V F S T : Type 0} → Pass V F S T → ℕ × Posted V × Bool × S
standing p = (p.process, p.own, p.told, p.seat)

module _ {V F S T : Type 0} (words : FamilyWords F (Posted V) S T) where
  -- the passes of all processes, in their order
  pub record AllPasses (obeys : V → Bool) (board : Board V F S T) (passes : List (Pass V F S T)) : Type 0 where
    pub all : length passes ≡ board.processes
    pub some : 0 < length passes
    pub each : (i : ℕ) (p : Pass V F S T) → slice_get passes i ≡ Some p → IsPass words obeys board p × (p.process ≡ i)

  abbrev pub did_at : Option (Pass V F S T) → List (Called V) → Did V
  did_at (Some p) calls = did_of words p.seat calls
  did_at None calls = record {
    times = [];
    calls = [];
    writes = λ j. record { items = []; begins = []; ends = [] };
    reads = λ j. record { items = []; numbers = []; begins = []; ends = [] };
  }

  -- what each process did
  abbrev pub did_by : List (Pass V F S T) → (ℕ → List (Called V)) → ℕ → Did V
  did_by passes calls i = did_at (slice_get passes i) (calls i)

  -- *An atomic run*: the calls are the operations of a history, each once, with their intervals, and there is an
  -- order of them by stamp that is atomic by these intervals and refuses lawfully; after it the register holds this
  -- record, the greatest that a process has. This comes of one schedule of all steps, by which each register
  -- between two processes is atomic
  pub record IsAtomicRun (board : Board V F S T) (did : ℕ → Did V) (last : Posted V) : Type 0 where
    pub ops : List (Op V)
    pub stamps : List (Option Stamp)
    pub order : List ℕ
    pub history : IsHistory board.processes did ops stamps
    pub by_stamp : IsInOrder ops stamps order
    pub atomic : IsAtomicOrder (λ x y. x ≡ y) board.first.item ops order
    pub lawful : RefusesLawfully (record { first = 0; limit = board.limit } ∷ []) ops order
    pub holds : latest board.first.item ops order ≡ Some last.item
    pub greatest : IsGreatestOwn board.processes (first_record board.first.item) did (stamped last)
    pub steps : List ℕ
    pub run : IsBoardRun words.width board.processes board.limit (first_record board.first.item) steps did

  -- *Atomic*: whatever calls were made with the passes, they are an atomic run
  abbrev pub HaveAtomicOrder : Board V F S T → List (Pass V F S T) → Posted V → Type 0
  HaveAtomicOrder board passes last = (calls : ℕ → List (Called V))
      → ((i : ℕ) (p : Pass V F S T) → slice_get passes i ≡ Some p → HasMade words board p (calls i))
      → IsAtomicRun board (did_by passes calls) last

  -- each register between two processes is atomic by its intervals: each answer is the record
  -- with its number of those written
  abbrev pub AllAtomic : Board V F S T → List (Pass V F S T) → Type 0
  AllAtomic board passes =
      EachTwo (λ i j p q. IsAtomicCell board.first (words.writes p.seat j) (words.reads q.seat i)) passes
