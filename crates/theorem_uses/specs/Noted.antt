-- Consequences of what a task adds to its log, and of logs in one order (this project's own).
use Rattle.std.specs.Prelude.{◌≡◌, ◌⊎◌, Bool, IsTrue, true, ℕ, ◌+◌, ◌<◌, ◌≤◌, List, [], ◌∷◌, ◌++◌}
use Rattle.std.specs.Prelude.{length, map, take, slice_get, Some}
use Rattle.history_core.specs.declared.wish.Wish.{Wish}
use Rattle.history_core.specs.declared.wish.Wish.TheVariants.{Write, Read}
use Rattle.matrix_core.specs.Choices.{IsIn}
use Rattle.matrix_core.specs.Lines.{first_record}
use Rattle.matrix_core.specs.Stamps.{IsBelow, first_stamp}
use Rattle.matrix_core.specs.declared.stamp.Stamp.{Stamp}
use Rattle.cell_contract.specs.declared.family.Family.{Ghosts as FamilyWords}
use Rattle.board_history.specs.BoardRuns.{Did, IsBoardRun}
use Rattle.board_live.specs.declared.board.Board.{Board}
use Rattle.board_live.specs.declared.board.Pass.{Pass}
use Rattle.board_live.specs.declared.record.Posted.{Posted}
use Rattle.board_live.specs.Passes.{IsCall, IsPass}
use Rattle.board_tasks.specs.declared.lane.Reply.{Reply}
use Rattle.board_tasks.specs.declared.lane.Reply.TheVariants.{Written, Seen, Ended}
use Rattle.board_tasks.specs.declared.lane.Entry.{Entry}
use Rattle.board_tasks.specs.declared.lane.Lane.{Lane}
use Rattle.board_tasks.specs.Lanes.{IsLane}
use Rattle.board_tasks.specs.LogOrders.{AreEntriesOfOne, entries_of, LogsInOrder, Noted}
use Rattle.board_tasks.specs.Logs.{IsLogOfScript, is_at_most, Obeys, stamp_of}
use Rattle.board_tasks.specs.Tasks.{AreCalls, entry, kind_by, Permitted, Ran, Replies, WasMade}
use Rattle.board_tasks.specs.Told.{AreOfRun}
use Rattle.board_tasks.specs.Worked.{EachTells}

module _ {V F S T : Type 0} (words : FamilyWords F (Posted V) S T) (obeys : V → Bool) where
  -- a task that has run has added entries of calls to its log, each by a permit, and of its
  -- whole script if it might not stop
  abbrev pub RanShow : Type 0
  RanShow = (may_call may_stop : ℕ → ℕ → Bool) (board : Board V F S T) (task : ℕ) (old new : Lane V F S T) →
      Ran words obeys (λ t k. IsTrue (may_call t k)) (λ t k. IsTrue (may_stop t k)) board task old new →
      IsPass words obeys board new.pass × IsLane obeys new × (new.script ≡ old.script)
      × ((added : List (Entry V)) × (new.log.items ≡ old.log.items ++ added)
      × AreCalls words obeys board old.pass added new.pass)
      × ((call : ℕ) → length old.log.items < call → call ≤ length new.log.items → IsTrue (may_call task call))
      × ((length new.log.items ≡ length new.script.items) ⊎ IsTrue (may_stop task (length new.log.items + 1)))

  -- an entry of a call that was made is of a call of some board, with its reply
  abbrev pub MadeEntriesShow : Type 0
  MadeEntriesShow = (e : Entry V) → WasMade words obeys e →
      (board : Board V F S T) × (old : Pass V F S T) × (new : Pass V F S T)
      × (seen : Posted V) × IsPass words obeys board new × IsCall words obeys board (kind_by e.reply) old new seen
      × Replies board.limit old.process e.wish seen new.own e.reply

module _ (S P : Type 0) where
  -- a call that is permitted has its permit
  abbrev pub PermitsShow : Type 0
  PermitsShow = (is_for : S → ℕ → ℕ → P → Bool) (gate : S) (task call : ℕ) →
      Permitted (λ g t k p. IsTrue (is_for g t k p)) gate task call →
      (permit : P) × IsTrue (is_for gate task call permit)

module _ (V : Type 0) where
  -- one register takes a read by giving the record that it holds; a write by holding its item under a greater stamp of
  -- its task; and it refuses a write, after as many writes as the limit, by giving what it holds
  abbrev pub TakesShow : Type 0
  TakesShow = (limit writes task : ℕ) (now last : Posted V) (wish : Wish V) (reply : Reply V) →
      AreEntriesOfOne limit now writes last (record { task = task; entry = entry wish reply } ∷ []) →
      (wish ≡ Read → (reply ≡ Seen now) × (last ≡ now))
      × ((item : V) → wish ≡ Write item →
      ((s : Stamp) × (reply ≡ Written s) × IsBelow now.stamp s × (s.writer ≡ task)
      × (last ≡ record { stamp = s; item = item }))
      ⊎ ((reply ≡ Ended now) × (limit ≤ writes) × (last ≡ now)))

  -- a register that takes nothing holds what it held
  abbrev pub NothingTaken : Type 0
  NothingTaken = (limit writes : ℕ) (now last : Posted V) → AreEntriesOfOne limit now writes last [] → last ≡ now

  -- logs in order have an order with the entries of each task's log and no others, which one register takes
  abbrev pub LogOrdersShow : Type 0
  LogOrdersShow = (opening : V) (limit : ℕ) (logs : List (List (Entry V))) (last : Posted V) →
      LogsInOrder opening limit logs last → (order : List (Noted V))
      × ((task : ℕ) (log : List (Entry V)) → slice_get logs task ≡ Some log → entries_of task order ≡ log)
      × ((n : Noted V) → IsIn n order → n.task < length logs)
      × AreEntriesOfOne limit (record { stamp = first_stamp; item = opening }) 0 last order

  -- a log of a script has the wishes that this begins with, and its stamps don't fall, up to this one
  abbrev pub ScriptsShow : Type 0
  ScriptsShow = (script : List (Wish V)) (log : List (Entry V)) (own : Stamp) (j k : ℕ) (e f : Entry V) →
      IsLogOfScript script log own → (map (λ e. e.wish) log ≡ take (length log) script) × (length log ≤ length script)
      × (j < k → slice_get log j ≡ Some e → slice_get log k ≡ Some f →
      is_at_most (stamp_of e.reply) (stamp_of f.reply) ≡ true)
      × (slice_get log j ≡ Some e → is_at_most (stamp_of e.reply) own ≡ true)

  -- a write that obeys has an item that does
  abbrev pub WishesShow : Type 0
  WishesShow = (obeys : V → Bool) (item : V) → Obeys obeys (Write item) → IsTrue (obeys item)

  -- logs of a run are those of a board's processes, and each entry tells of its process's call
  abbrev pub RunLogsShow : Type 0
  RunLogsShow = (opening : V) (logs : List (List (Entry V))) → AreOfRun opening logs →
      (width : ℕ) × (limit : ℕ) × (steps : List ℕ)
      × (did : ℕ → Did V) × IsBoardRun width (length logs) limit (first_record opening) steps did
      × ((i : ℕ) (log : List (Entry V)) → slice_get logs i ≡ Some log → EachTells log (did i).calls)
