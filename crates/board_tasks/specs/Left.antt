-- Some lanes of a board, whose other ones were lost, and what their logs tell of (this project's own).
use Rattle.std.specs.Prelude.{◌≡◌, ◌≢◌, Bool, true, ℕ, ◌<◌, List, [], length, map, slice_get, Some}
use Rattle.cell_contract.specs.declared.family.Family.{Ghosts as FamilyWords}
use Rattle.cell_contract.specs.Ends.{EachTwo}
use Rattle.board_history.specs.BoardRuns.{Called}
use Rattle.board_live.specs.declared.board.Board.{Board}
use Rattle.board_live.specs.declared.record.Posted.{Posted}
use Rattle.board_live.specs.Left.{HasOrderWith}
use Rattle.board_tasks.specs.declared.lane.Entry.{Entry}
use Rattle.board_tasks.specs.declared.lane.Lane.{Lane}
use Rattle.board_tasks.specs.Lost.{is_lost}
use Rattle.board_tasks.specs.Worked.{EachTells, HasWorked}

module _ {V F S T : Type 0} where
  -- the logs of all processes, by number: that of each lane, and an empty one, which is lost, where no lane came back
  pub record AreLogsOfAll (board : Board V F S T) (lanes : List (Lane V F S T)) (lost : List Bool)
      (logs : List (List (Entry V))) : Type 0 where
    pub all : length logs ≡ board.processes
    pub left : (k : ℕ) (lane : Lane V F S T) → slice_get lanes k ≡ Some lane →
        slice_get logs lane.pass.process ≡ Some lane.log.items
    pub gone : (i : ℕ) → i < board.processes →
        ((k : ℕ) (lane : Lane V F S T) → slice_get lanes k ≡ Some lane → lane.pass.process ≢ i) →
        (is_lost lost i ≡ true) × (slice_get logs i ≡ Some [])

module _ {V F S T : Type 0} (family : FamilyWords F (Posted V) S T) where
  -- these are lanes of different processes of the board, at least one, and each has worked with a fresh pass
  pub record SomeHaveWorked (obeys : V → Bool) (board : Board V F S T) (lanes : List (Lane V F S T)) : Type 0 where
    pub some : 0 < length lanes
    pub each : (k : ℕ) (lane : Lane V F S T) → slice_get lanes k ≡ Some lane →
        HasWorked family obeys board lane.pass.process lane
    pub apart : EachTwo (λ i j l m. l.pass.process ≢ m.pass.process) lanes

  -- *Atomic with those lost*: each entry of these logs tells of a call of its process, the other processes made some
  -- calls, ended or cut off at whatever step, and all of them together are an atomic run so far
  pub record AreAtomicLogsWith (board : Board V F S T) (lanes : List (Lane V F S T)) : Type 0 where
    pub calls : ℕ → List (Called V)
    pub told : (k : ℕ) (lane : Lane V F S T) → slice_get lanes k ≡ Some lane →
        EachTells lane.log.items (calls lane.pass.process)
    pub run : HasOrderWith family board (map (λ l. l.pass) lanes) calls
