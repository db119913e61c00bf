-- Consequences of a board's calls and of an ended board, call by call (this project's own).
use Rattle.std.specs.Prelude.{◌≡◌, ◌≢◌, Bool, IsTrue, ℕ, ◌<◌, List}
use Rattle.std.specs.Prelude.{◌∷◌, slice_get, Some, Option, true}
use Rattle.history_core.specs.declared.history.Kind.{Kind}
use Rattle.history_core.specs.declared.history.Kind.TheVariants.{Write, Read, Refused}
use Rattle.history_core.specs.declared.history.Op.{Op}
use Rattle.matrix_core.specs.declared.stamp.Stamp.{Stamp}
use Rattle.matrix_core.specs.Choices.{IsAtMost}
use Rattle.matrix_core.specs.Lines.{first_record}
use Rattle.cell_contract.specs.declared.times.Known.{Known}
use Rattle.cell_contract.specs.Intervals.{AreFirst}
use Rattle.cell_contract.specs.Running.{last_or}
use Rattle.cell_contract.specs.declared.family.Family.{Ghosts as FamilyWords}
use Rattle.board_history.specs.BoardRuns.{Called, Did, IsBoardRun}
use Rattle.board_history.specs.Histories.{IsHistory, own_after}
use Rattle.board_live.specs.declared.board.Board.{Board}
use Rattle.board_live.specs.declared.board.Pass.{Pass}
use Rattle.board_live.specs.declared.record.Posted.{Posted}
use Rattle.board_live.specs.Ends.{IsAtomicRun}
use Rattle.board_live.specs.Passes.{IsCall, IsPass}
use Rattle.board_live.specs.Records.{greater, stamped}

-- call k of process i is this one, and no other call of the n processes is a write
pub record IsOnlyBoardWrite {V : Type 0} (n : ℕ) (did : ℕ → Did V) (i k : ℕ) (write : Called V) : Type 0 where
  pub inside : i < n
  pub there : slice_get (did i).calls k ≡ Some write
  pub kind : write.kind ≡ Write
  pub only : (j m : ℕ) (c : Called V) → j < n → slice_get (did j).calls m ≡ Some c → c.kind ≡ Write → (j ≡ i) × (m ≡ k)

module _ {V F S T : Type 0} (words : FamilyWords F (Posted V) S T) where
  -- a read that began after the only write had ended has its record
  abbrev pub ReadsTheOnlyWrite : Type 0
  ReadsTheOnlyWrite = (board : Board V F S T) (did : ℕ → Did V) (last : Posted V) (i k j m : ℕ)
      (write read : Called V) → IsAtomicRun words board did last → IsOnlyBoardWrite board.processes did i k write →
      j < board.processes → slice_get (did j).calls m ≡ Some read → read.kind ≡ Read → write.end < read.begin →
      read.chosen.item ≡ write.chosen.item

  -- in the end the register holds the record of the only write
  abbrev pub EndsWithTheOnlyWrite : Type 0
  EndsWithTheOnlyWrite = (board : Board V F S T) (did : ℕ → Did V) (last : Posted V) (i k : ℕ) (write : Called V) →
      IsAtomicRun words board did last → IsOnlyBoardWrite board.processes did i k write → last.item ≡ write.chosen.item

  -- where nothing is written, and the limit isn't 0, no write is refused
  abbrev pub RefusesNone : Type 0
  RefusesNone = (board : Board V F S T) (did : ℕ → Did V) (last : Posted V) (j m : ℕ) (call : Called V) →
      0 < board.limit → IsAtomicRun words board did last →
      ((i k : ℕ) (c : Called V) → i < board.processes → slice_get (did i).calls k ≡ Some c → c.kind ≢ Write) →
      j < board.processes → slice_get (did j).calls m ≡ Some call → call.kind ≢ Refused

  -- a call that began after another one had ended has no smaller stamp
  abbrev pub StampsRiseByTime : Type 0
  StampsRiseByTime = (board : Board V F S T) (did : ℕ → Did V) (last : Posted V) (i k j m : ℕ) (a b : Called V) →
      IsAtomicRun words board did last → i < board.processes → j < board.processes →
      slice_get (did i).calls k ≡ Some a → slice_get (did j).calls m ≡ Some b → a.end < b.begin →
      IsAtMost a.chosen.stamp b.chosen.stamp

  -- the end is one process's last record, and no process has a greater one
  abbrev pub EndsWithTheGreatest : Type 0
  EndsWithTheGreatest = (board : Board V F S T) (did : ℕ → Did V) (last : Posted V) → IsAtomicRun words board did last →
      ((i : ℕ) × (i < board.processes) × (stamped last ≡ own_after (first_record board.first.item) (did i)))
      × ((i : ℕ) → i < board.processes → IsAtMost (own_after (first_record board.first.item) (did i)).stamp last.stamp)

  -- all calls come of one schedule of steps, and each is an operation with its interval, its kind and the
  -- record and stamp that it chose
  abbrev pub ComesOfOneSchedule : Type 0
  ComesOfOneSchedule = (board : Board V F S T) (did : ℕ → Did V) (last : Posted V) (i k : ℕ) (call : Called V) →
      IsAtomicRun words board did last → i < board.processes → slice_get (did i).calls k ≡ Some call →
      ((steps : List ℕ) × IsBoardRun words.width board.processes board.limit (first_record board.first.item) steps did)
      × ((p : ℕ) × (op : Op V) × (ops : List (Op V)) × (stamps : List (Option Stamp))
      × IsHistory board.processes did ops stamps
      × (slice_get ops p ≡ Some op) × (slice_get stamps p ≡ Some (Some call.chosen.stamp)) × (op.who ≡ i)
      × (op.kind ≡ call.kind)
      × (op.item ≡ Some call.chosen.item) × (op.starts ≡ call.begin) × (op.ends ≡ Some call.end))

  module _ (obeys : V → Bool) (board : Board V F S T) (kind : Kind) (old new : Pass V F S T) (seen : Posted V) where
    -- of two processes a call saw the greater of its own record and the last answer of the other process, which that
    -- one is known to have written, or the opening
    abbrev pub SeesTheGreater : Type 0
    SeesTheGreater = IsCall words obeys board kind old new seen → board.processes ≡ 2 → old.process ≡ 0 →
        (answer : Posted V) × (number : ℕ) × (seen ≡ greater old.own answer)
        × (last_or board.first (words.reads new.seat 1).answers ≡ answer)
        × (slice_get (board.first ∷ (words.reads new.seat 1).known.items) number ≡ Some answer)
        × IsTrue (obeys answer.item)

    -- what it saw isn't below what its process was told
    abbrev pub SeesWhatWasTold : Type 0
    SeesWhatWasTold = (j k : ℕ) (told : Posted V) → IsCall words obeys board kind old new seen →
        j < board.processes → j ≢ old.process → slice_get (words.reads old.seat j).told k ≡ Some told →
        IsAtMost told.stamp seen.stamp

    -- after it, if the process's own record is told, the register to each other process has it last
    abbrev pub ShowsItsOwn : Type 0
    ShowsItsOwn = (j : ℕ) → IsCall words obeys board kind old new seen → IsPass words obeys board old →
        new.told ≡ true → j < board.processes → j ≢ old.process →
        last_or board.first (words.writes new.seat j).items ≡ new.own

    -- it took its time after all that its process knew of
    abbrev pub TakesTime : Type 0
    TakesTime = IsCall words obeys board kind old new seen → words.clock old.seat < words.clock new.seat

    -- it forgets no receipt of another process, and knows the writes that each carried
    abbrev pub ForgetsNoReceipt : Type 0
    ForgetsNoReceipt = (j k : ℕ) (told : Known (Posted V)) → IsCall words obeys board kind old new seen →
        j < board.processes → j ≢ old.process → ((words.reads new.seat j).heard ≡ (words.reads old.seat j).heard)
        × (slice_get (words.reads new.seat j).heard k ≡ Some told →
        AreFirst told (words.reads new.seat j).known.items (words.reads new.seat j).known.times)
