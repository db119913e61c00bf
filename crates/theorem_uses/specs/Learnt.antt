-- Consequences of receipts of a board, of the bound of a call and of a call that wasn't made (this project's own).
use Rattle.std.specs.Prelude.{◌≡◌, ◌≢◌, ℕ, ◌+◌, ◌-◌, ◌*◌, ◌<◌, ◌≤◌, List, [], ◌∷◌, ◌++◌, length}
use Rattle.cell_contract.specs.Intervals.{known_as}
use Rattle.cell_contract.specs.declared.family.Family.{Ghosts as FamilyWords}
use Rattle.board_history.specs.BoardRuns.{Called}
use Rattle.board_live.specs.declared.board.Board.{Board}
use Rattle.board_live.specs.declared.board.Pass.{Pass}
use Rattle.board_live.specs.declared.receipts.Receipt.{Receipt}
use Rattle.board_live.specs.declared.record.Posted.{Posted}
use Rattle.board_live.specs.Passes.{HasMade, HasSame, IsBounded}
use Rattle.board_live.specs.Receipts.{HasLearnt, HasTold, IsDuplicate, IsReceipt}

module _ {V F S T : Type 0} (words : FamilyWords F (Posted V) S T) where
  -- a receipt is of the board, and names one record of a process of it, of each register of this process
  abbrev pub ReceiptsShow : Type 0
  ReceiptsShow = (board : Board V F S T) (receipt : Receipt V F S T) → IsReceipt words board receipt →
      words.is_receipt board.family receipt.told × (words.sender receipt.told ≡ receipt.from)
      × (receipt.from < board.processes)
      × ((j : ℕ) → j < board.processes → j ≢ receipt.from → words.named receipt.told j ≡ receipt.item)

  -- a receipt that was made names its sender's own record, and has its time and its writes
  abbrev pub ToldShow : Type 0
  ToldShow = (board : Board V F S T) (old new : Pass V F S T) (receipt : Receipt V F S T) →
      HasTold words board old new receipt → IsReceipt words board receipt × (receipt.from ≡ old.process)
      × (receipt.item ≡ old.own) × (words.time_of receipt.told ≡ words.clock old.seat)
      × ((j : ℕ) → j < board.processes → j ≢ old.process →
      words.writes_of receipt.told j ≡ known_as (words.writes old.seat j).items (words.writes old.seat j).times)
      × ((j : ℕ) → words.reads new.seat j ≡ words.reads old.seat j)

  -- a second receipt is of the board, and tells the same
  abbrev pub DuplicatesShow : Type 0
  DuplicatesShow = (board : Board V F S T) (receipt again : Receipt V F S T) → IsDuplicate words board receipt again →
      IsReceipt words board again × (again.from ≡ receipt.from) × (again.item ≡ receipt.item)
      × (words.time_of again.told ≡ words.time_of receipt.told)
      × ((j : ℕ) → words.writes_of again.told j ≡ words.writes_of receipt.told j)

  -- a process that has learnt a receipt of another one knows of its time, its record and its
  -- writes, and has read nothing
  abbrev pub LearntShow : Type 0
  LearntShow = (old new : Pass V F S T) (receipt : Receipt V F S T) → HasLearnt words old new receipt →
      receipt.from ≢ old.process → (words.time_of receipt.told ≤ words.clock new.seat)
      × ((words.reads new.seat receipt.from).told ≡ (words.reads old.seat receipt.from).told ++ receipt.item ∷ [])
      × ((words.reads new.seat receipt.from).heard
      ≡ (words.reads old.seat receipt.from).heard ++ words.writes_of receipt.told old.process ∷ [])
      × ((words.reads new.seat receipt.from).answers ≡ (words.reads old.seat receipt.from).answers)
      × ((words.reads new.seat receipt.from).numbers ≡ (words.reads old.seat receipt.from).numbers)
      × ((words.reads new.seat receipt.from).known ≡ (words.reads old.seat receipt.from).known)
      × ((words.reads new.seat receipt.from).times.begins ≡ (words.reads old.seat receipt.from).times.begins)
      × ((words.reads new.seat receipt.from).times.ends ≡ (words.reads old.seat receipt.from).times.ends)
      × ((j : ℕ) → j ≢ receipt.from → words.reads new.seat j ≡ words.reads old.seat j)

  -- a call takes at most 6 (n - 1) steps
  abbrev pub BoundsShow : Type 0
  BoundsShow = (board : Board V F S T) (old new : Pass V F S T) → IsBounded words board old new → (words.width ≤ 3)
      × (length (words.times new.seat) ≤ length (words.times old.seat) + 2 * (board.processes - 1) * words.width)

  -- where no call was made, the process has its record and its calls, and knows of all that it knew
  abbrev pub SameShow : Type 0
  SameShow = (board : Board V F S T) (old new : Pass V F S T) (calls : List (Called V)) → HasSame words board old new →
      (new.process ≡ old.process) × (new.own ≡ old.own) × (new.told ≡ old.told)
      × (words.clock old.seat ≤ words.clock new.seat)
      × ((j : ℕ) → words.writes new.seat j ≡ words.writes old.seat j)
      × (HasMade words board old calls → HasMade words board new calls)
