-- What a receipt tells (this project's own).
use Rattle.std.specs.Prelude.{◌≡◌, ◌≢◌, Bool, ℕ, ◌<◌, ◌≤◌, true}
use Rattle.cell_contract.specs.Intervals.{known_as}
use Rattle.cell_contract.specs.declared.family.Family.{Ghosts as FamilyWords}
use Rattle.cell_contract.specs.Accesses.{IsHeardRead, KeepsEach, KeepsOthers}
use Rattle.history_core.specs.declared.history.Kind.TheVariants.{Read}
use Rattle.board_live.specs.declared.board.Board.{Board}
use Rattle.board_live.specs.declared.board.Pass.{Pass}
use Rattle.board_live.specs.declared.receipts.Receipt.{Receipt}
use Rattle.board_live.specs.declared.record.Posted.{Posted}
use Rattle.board_live.specs.Passes.{IsBounded, IsCall}
use Rattle.board_live.specs.SoFar.{HaveAtomicOrderSoFar}

module _ {V F S T : Type 0} (family : FamilyWords F (Posted V) S T) where
  -- the receipt is of this board, and names its record of its sender to each other process
  pub record IsReceipt (board : Board V F S T) (receipt : Receipt V F S T) : Type 0 where
    pub of : family.is_receipt board.family receipt.told
    pub sender : family.sender receipt.told ≡ receipt.from
    pub inside : receipt.from < board.processes
    pub names : (j : ℕ) → j < board.processes → j ≢ receipt.from → family.named receipt.told j ≡ receipt.item

  -- *Handed on*: a read was made, and its record was told to each other process
  pub record HandsOn (obeys : V → Bool) (board : Board V F S T) (old new : Pass V F S T) : Type 0 where
    pub call : IsCall family obeys board Read old new new.own
    pub row : call.tells ≡ true
    pub told : new.told ≡ true
    pub bounded : IsBounded family board old new
    pub so_far : HaveAtomicOrderSoFar family board new

  -- the receipt names its sender's own record, has the last time of which its sender knew, and carries all that its
  -- sender wrote to each other process, with the intervals; nothing was read
  pub record HasTold (board : Board V F S T) (old new : Pass V F S T) (receipt : Receipt V F S T) : Type 0 where
    pub is : IsReceipt board receipt
    pub from : receipt.from ≡ old.process
    pub names : receipt.item ≡ old.own
    pub time : family.time_of receipt.told ≡ family.clock old.seat
    pub tells : (j : ℕ) → j < board.processes → j ≢ old.process →
        family.writes_of receipt.told j ≡ known_as (family.writes old.seat j).items (family.writes old.seat j).times
    pub reads : KeepsEach (family.reads old.seat) (family.reads new.seat)

  -- a second receipt that tells the same
  pub record IsDuplicate (board : Board V F S T) (receipt again : Receipt V F S T) : Type 0 where
    pub is : IsReceipt board again
    pub from : again.from ≡ receipt.from
    pub names : again.item ≡ receipt.item
    pub time : family.time_of again.told ≡ family.time_of receipt.told
    pub tells : KeepsEach (family.writes_of receipt.told) (family.writes_of again.told)

  -- the process knows of the receipt's time, and was told its record of the sender and the writes that
  -- it carries; nothing was read
  pub record HasLearnt (old new : Pass V F S T) (receipt : Receipt V F S T) : Type 0 where
    pub time : family.time_of receipt.told ≤ family.clock new.seat
    pub heard : receipt.from ≢ old.process →
        IsHeardRead (family.reads old.seat receipt.from) (family.reads new.seat receipt.from) receipt.item
        (family.writes_of receipt.told old.process)
    pub others : KeepsOthers receipt.from (family.reads old.seat) (family.reads new.seat)
