-- Consequences of a pass and of a call that was made with it, by their parts (this project's own).
use Rattle.std.specs.Prelude.{◌≡◌, ◌≢◌, ◌⊎◌, Bool, IsTrue, ℕ, ◌+◌, ◌<◌, ◌≤◌, List, [], ◌∷◌, length}
use Rattle.std.specs.Prelude.{slice_get, Some, true, vec_capacity}
use Rattle.history_core.specs.declared.history.Kind.{Kind}
use Rattle.matrix_core.specs.Choices.{IsAtMost}
use Rattle.cell_contract.specs.declared.times.Known.{Known}
use Rattle.cell_contract.specs.Running.{last_or}
use Rattle.cell_contract.specs.declared.family.Family.{Ghosts as FamilyWords}
use Rattle.board_history.specs.BoardRuns.{Called}
use Rattle.board_live.specs.declared.board.Board.{Board}
use Rattle.board_live.specs.declared.board.Pass.{Pass}
use Rattle.board_live.specs.declared.record.Posted.{Posted}
use Rattle.board_live.specs.Ends.{AllPasses}
use Rattle.board_live.specs.Passes.{HasMade, IsCall, IsPass}
use Rattle.board_live.specs.Records.{stamped}

module _ {V F S T : Type 0} (words : FamilyWords F (Posted V) S T) (obeys : V → Bool) where
  -- a call saw its own record or one that another process is known to have written, no older than the last write of a
  -- learnt receipt; no stamp falls; of two processes it takes the steps of one access or of two; and if it is the first
  -- call of its pass, it is the only one that was made with it
  abbrev pub CallsShow : Type 0
  CallsShow = (board : Board V F S T) (kind : Kind) (old new : Pass V F S T) (seen : Posted V) →
      IsCall words obeys board kind old new seen →
      (new.process ≡ old.process)
      × ((seen ≡ old.own) ⊎ ((j : ℕ) × (number : ℕ) × (j < board.processes) × (j ≢ old.process)
      × (slice_get (board.first ∷ (words.reads new.seat j).known.items) number ≡ Some seen)
      × ((k : ℕ) (told : Known (Posted V)) → slice_get (words.reads new.seat j).heard k ≡ Some told →
      length told.items ≤ number))) × IsAtMost old.own.stamp seen.stamp × IsAtMost seen.stamp new.own.stamp
      × (board.processes ≡ 2 → words.width ≡ 1 → (length (words.times new.seat) ≡ length (words.times old.seat) + 1)
      ⊎ (length (words.times new.seat) ≡ length (words.times old.seat) + 2))
      × (HasMade words board old [] → (call : Called V) × HasMade words board new (call ∷ []) × (call.kind ≡ kind)
      × (call.seen ≡ stamped seen) × (call.chosen ≡ stamped new.own) × (call.begin ≤ call.end))

  -- a pass with which no call was made has the opening and no steps, and after one call it has what that chose
  abbrev pub MadeShows : Type 0
  MadeShows = (board : Board V F S T) (pass : Pass V F S T) →
      (HasMade words board pass [] → (stamped pass.own ≡ stamped board.first) × (words.times pass.seat ≡ []))
      × ((call : Called V) → HasMade words board pass (call ∷ []) → stamped pass.own ≡ call.chosen)

  -- a pass is one of 2 to 16 processes of its board, whose seat it has, with room for all seats if it is the
  -- last one; its own record obeys its law, and each other process was shown no greater one last, and this one if it
  -- was told; and some calls were made with it, within the limit
  abbrev pub PassesShow : Type 0
  PassesShow = (board : Board V F S T) (pass : Pass V F S T) → IsPass words obeys board pass →
      (2 ≤ board.processes) × (board.processes ≤ 16) × (0 < words.width)
      × (words.processes board.family ≡ board.processes)
      × (words.opening board.family ≡ board.first) × (board.first.stamp.tag ≡ 0) × (board.first.stamp.writer ≡ 0)
      × (pass.process < board.processes)
      × (pass.process + 1 ≡ board.processes → board.processes ≤ vec_capacity pass.room)
      × (pass.room.items ≡ []) × words.is_seat board.family pass.seat × (words.who pass.seat ≡ pass.process)
      × IsTrue (obeys pass.own.item)
      × ((j : ℕ) → j < board.processes → j ≢ pass.process →
      IsAtMost (last_or board.first (words.writes pass.seat j).items).stamp pass.own.stamp
      × (pass.told ≡ true → last_or board.first (words.writes pass.seat j).items ≡ pass.own))
      × (words.limit board.family ≡ board.limit) × (calls : List (Called V)) × HasMade words board pass calls

  -- the passes of all processes stand in the order of their numbers
  abbrev pub AllPassesShow : Type 0
  AllPassesShow = (board : Board V F S T) (passes : List (Pass V F S T)) → AllPasses words obeys board passes →
      (length passes ≡ board.processes) × (0 < length passes)
      × ((i : ℕ) (p : Pass V F S T) → slice_get passes i ≡ Some p → (p.process ≡ i) × (words.who p.seat ≡ i))
