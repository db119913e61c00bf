-- What a process hears of another one's write, through receipts (this project's own).
use Rattle.std.specs.Prelude.{◌≡◌, ◌<◌, List, [], ◌∷◌, ◌++◌}
use Rattle.cell_contract.specs.declared.family.Family.{Ghosts as FamilyWords}
use Rattle.history_core.specs.declared.history.Kind.TheVariants.{Read, Write}
use Rattle.matrix_core.specs.declared.stamp.Stamp.{Stamp}
use Rattle.board_history.specs.BoardRuns.{Called}
use Rattle.board_live.specs.declared.board.Board.{Board}
use Rattle.board_live.specs.declared.board.Pass.{Pass}
use Rattle.board_live.specs.declared.record.Posted.{Posted}
use Rattle.board_live.specs.Passes.{HasMade}
use Rattle.board_live.specs.Records.{stamped}

module _ {V F S T : Type 0} (family : FamilyWords F (Posted V) S T) where
  -- no call was made with the pass
  abbrev pub HasMadeNone : Board V F S T → Pass V F S T → Pass V F S T → Type 0
  HasMadeNone board old new = (calls : List (Called V)) → HasMade family board old calls →
      HasMade family board new calls

  -- one call more was made with each of two passes: a write of the item, which had this stamp, and a read with this
  -- answer, which began after the write had ended
  pub record HasMadeBoth (board : Board V F S T) (q q' r r' : Pass V F S T) (qs rs : List (Called V))
      (item : V) (stamp : Stamp) (answer : Posted V) : Type 0 where
    pub write : Called V
    pub read : Called V
    pub wrote : HasMade family board q' (qs ++ write ∷ [])
    pub looked : HasMade family board r' (rs ++ read ∷ [])
    pub kinds : (write.kind ≡ Write) × (read.kind ≡ Read)
    pub records : (write.chosen ≡ record { stamp = stamp; item = item }) × (read.chosen ≡ stamped answer)
    pub later : write.end < read.begin

  -- *Heard*: whatever calls were made with the passes before, these two were made with them now
  abbrev pub HasHeard : Board V F S T → Pass V F S T → Pass V F S T → Pass V F S T → Pass V F S T → V →
      Stamp → Posted V → Type 0
  HasHeard board q q' r r' item stamp answer = (qs rs : List (Called V)) → HasMade family board q qs →
      HasMade family board r rs → HasMadeBoth board q q' r r' qs rs item stamp answer
