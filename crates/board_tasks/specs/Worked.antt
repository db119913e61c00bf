-- Lanes that have run with fresh passes, and what their logs tell of (this project's own).
use Rattle.std.specs.Prelude.{◌≡◌, Bool, ℕ, ◌<◌, List, [], ◌∷◌, length, map, slice_get, Some}
use Rattle.history_core.specs.declared.wish.Wish.{Wish}
use Rattle.history_core.specs.declared.wish.Wish.TheVariants.{Write, Read}
use Rattle.cell_contract.specs.declared.family.Family.{Ghosts as FamilyWords}
use Rattle.matrix_core.specs.declared.stamp.Stamped.{Stamped}
use Rattle.board_history.specs.BoardRuns.{Called}
use Rattle.board_live.specs.declared.board.Board.{Board}
use Rattle.board_live.specs.declared.board.Pass.{Pass}
use Rattle.board_live.specs.declared.record.Posted.{Posted}
use Rattle.board_live.specs.Ends.{did_by, IsAtomicRun}
use Rattle.board_live.specs.Passes.{HasMade, IsPass}
use Rattle.board_live.specs.Records.{stamped}
use Rattle.board_tasks.specs.declared.lane.Entry.{Entry}
use Rattle.board_tasks.specs.declared.lane.Lane.{Lane}
use Rattle.board_tasks.specs.declared.lane.Reply.{Reply}
use Rattle.board_tasks.specs.declared.lane.Reply.TheVariants.{Written, Seen, Ended}
use Rattle.board_tasks.specs.Tasks.{AreCalls, kind_by}

module _ {V : Type 0} where
  -- the record that a call chose, by its wish and its reply
  abbrev pub HasChosenBy : Wish V → Reply V → Stamped V → Type 0
  HasChosenBy (Write item) (Written s) chosen = chosen ≡ record { stamp = s; item = item }
  HasChosenBy (Write item) (Seen p) chosen = ⊥
  HasChosenBy (Write item) (Ended p) chosen = chosen ≡ stamped p
  HasChosenBy Read (Written s) chosen = ⊥
  HasChosenBy Read (Seen p) chosen = chosen ≡ stamped p
  HasChosenBy Read (Ended p) chosen = ⊥

  -- the entry tells of this call
  abbrev pub TellsOfCall : Entry V → Called V → Type 0
  TellsOfCall e c = (c.kind ≡ kind_by e.reply) × HasChosenBy e.wish e.reply c.chosen

  -- each entry tells of its call
  abbrev pub EachTells : List (Entry V) → List (Called V) → Type 0
  EachTells [] [] = Unit {0}
  EachTells [] (c ∷ cs) = ⊥
  EachTells (e ∷ es) [] = ⊥
  EachTells (e ∷ es) (c ∷ cs) = TellsOfCall e c × EachTells es cs

module _ {V F S T : Type 0} where
  -- the logs of the lanes
  abbrev pub logs_of : List (Lane V F S T) → List (List (Entry V))
  logs_of lanes = map (λ l. l.log.items) lanes

module _ {V F S T : Type 0} (family : FamilyWords F (Posted V) S T) (obeys : V → Bool) where
  -- the lane's pass was fresh, a pass of this process, and its log has the calls that were made with it since
  pub record HasWorked (board : Board V F S T) (who : ℕ) (lane : Lane V F S T) : Type 0 where
    pub old : Pass V F S T
    pub fresh : HasMade family board old []
    pub of : IsPass family obeys board lane.pass
    pub process : lane.pass.process ≡ who
    pub calls : AreCalls family obeys board old lane.log.items lane.pass

  -- these are lanes of all processes of the board, and they have worked so
  pub record HaveWorked (board : Board V F S T) (lanes : List (Lane V F S T)) : Type 0 where
    pub all : length lanes ≡ board.processes
    pub some : 0 < length lanes
    pub each : (k : ℕ) (lane : Lane V F S T) → slice_get lanes k ≡ Some lane → HasWorked board k lane

module _ {V F S T : Type 0} (family : FamilyWords F (Posted V) S T) where
  -- *Atomic*: each entry of each log tells of a call, and all these calls are an atomic run, after which
  -- the register holds this record
  pub record AreAtomicLogs (board : Board V F S T) (lanes : List (Lane V F S T)) (last : Posted V) : Type 0 where
    pub calls : ℕ → List (Called V)
    pub told : (i : ℕ) (lane : Lane V F S T) → slice_get lanes i ≡ Some lane → EachTells lane.log.items (calls i)
    pub run : IsAtomicRun family board (did_by family (map (λ l. l.pass) lanes) calls) last
