-- Stale answers in the logs that are left, whoever was lost (this project's own).
use Rattle.std.specs.Prelude.{◌≡◌, ◌≢◌, ◌⊎◌, Bool, ℕ, ◌<◌, List, length, slice_get, Some}
use Rattle.history_core.specs.declared.wish.Wish.TheVariants.{Write, Read}
use Rattle.matrix_core.specs.declared.stamp.Stamp.{Stamp}
use Rattle.matrix_core.specs.Stamps.{IsBelow}
use Rattle.cell_contract.specs.declared.family.Family.{Ghosts as FamilyWords}
use Rattle.board_history.specs.BoardRuns.{Called}
use Rattle.board_history.specs.BoardRuns.{end_of}
use Rattle.board_live.specs.declared.board.Board.{Board}
use Rattle.board_live.specs.declared.record.Posted.{Posted}
use Rattle.board_tasks.specs.declared.lane.Entry.{Entry}
use Rattle.board_tasks.specs.declared.lane.Lane.{Lane}
use Rattle.board_tasks.specs.declared.lane.Reply.TheVariants.{Written, Seen}
use Rattle.board_tasks.specs.Left.{AreAtomicLogsWith}
use Rattle.board_tasks.specs.Tasks.{entry}
use Rattle.board_tasks.specs.Told.{AreOfRunBeside}

-- *Stale* after a write of this item under this stamp: the record has a smaller stamp, or that stamp and another item
abbrev pub IsStaleAfter : {V : Type 0} → Stamp → V → Posted V → Type 0
IsStaleAfter stamp item seen = IsBelow seen.stamp stamp ⊎ ((seen.stamp ≡ stamp) × (seen.item ≢ item))

module _ {V F S T : Type 0} (words : FamilyWords F (Posted V) S T) where
  -- of a lane that is left, also of the only one, whoever was lost or cut off: a read that stands in its log behind a
  -- write didn't see a stale record
  abbrev pub StaleEntriesAreAbsurd : Type 0
  StaleEntriesAreAbsurd = (board : Board V F S T) (lanes : List (Lane V F S T)) (x j k : ℕ) (lane : Lane V F S T)
      (stamp : Stamp) (item : V) (seen : Posted V) → AreAtomicLogsWith words board lanes →
      slice_get lanes x ≡ Some lane → lane.pass.process < board.processes → j < k →
      slice_get lane.log.items j ≡ Some (entry (Write item) (Written stamp)) →
      slice_get lane.log.items k ≡ Some (entry Read (Seen seen)) → IsStaleAfter stamp item seen → ⊥

module _ (V : Type 0) where
  -- of two logs of a run beside what is lost: a read whose call began after that of a write in the other log had ended
  -- didn't see a stale record
  abbrev pub StaleBesideIsAbsurd : Type 0
  StaleBesideIsAbsurd = (opening : V) (lost : List Bool) (logs : List (List (Entry V))) (i j k m end : ℕ)
      (log other : List (Entry V)) (a b : Called V) (stamp : Stamp) (item : V) (seen : Posted V)
      (h : AreOfRunBeside opening lost logs) → slice_get logs i ≡ Some log → slice_get logs j ≡ Some other →
      slice_get log k ≡ Some (entry (Write item) (Written stamp)) →
      slice_get other m ≡ Some (entry Read (Seen seen)) →
      slice_get (h.did i).calls k ≡ Some a → slice_get (h.did j).calls m ≡ Some b →
      end_of h.width (length logs) (h.did i) k a ≡ Some end → end < b.begin → IsStaleAfter stamp item seen → ⊥
