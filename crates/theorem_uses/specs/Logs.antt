-- Consequences of what the logs of tasks say, entry by entry (this project's own).
use Rattle.std.specs.Prelude.{◌≡◌, ◌⊎◌, Bool, IsTrue, IsFalse, ℕ, ◌+◌, ◌<◌, ◌≤◌, List, []}
use Rattle.std.specs.Prelude.{◌∷◌, length, map, slice_get, Some}
use Rattle.history_core.specs.declared.wish.Wish.{Wish}
use Rattle.history_core.specs.declared.wish.Wish.TheVariants.{Write, Read}
use Rattle.matrix_core.specs.declared.stamp.Stamp.{Stamp}
use Rattle.cell_contract.specs.declared.family.Family.{Ghosts as FamilyWords}
use Rattle.board_history.specs.BoardRuns.{Called}
use Rattle.board_live.specs.declared.board.Board.{Board}
use Rattle.board_live.specs.declared.board.Pass.{Pass}
use Rattle.board_live.specs.declared.record.Posted.{Posted}
use Rattle.board_live.specs.Ends.{did_by, IsAtomicRun}
use Rattle.board_live.specs.Passes.{HasMade, IsCall, IsPass}
use Rattle.board_live.specs.Records.{stamped}
use Rattle.board_tasks.specs.declared.lane.Reply.{Reply}
use Rattle.board_tasks.specs.declared.lane.Reply.TheVariants.{Written, Seen, Ended}
use Rattle.board_tasks.specs.declared.lane.Entry.{Entry}
use Rattle.board_tasks.specs.declared.lane.Lane.{Lane}
use Rattle.board_tasks.specs.Tasks.{AreCalls, kind_by, Replies}
use Rattle.board_tasks.specs.Worked.{AreAtomicLogs, HasChosenBy, HaveWorked}
use Rattle.board_tasks.specs.declared.origin.Origin.TheVariants.{Sound, Broken}
use Rattle.board_tasks.specs.Origins.{has_origin, in_order, IsOrigin, stamp_before}

module _ (V : Type 0) where
  -- a read replies what it saw; a write below the limit its next stamp, and else what it saw
  abbrev pub RepliesShow : Type 0
  RepliesShow = (limit process : ℕ) (wish : Wish V) (seen chosen : Posted V) (reply : Reply V) →
      Replies limit process wish seen chosen reply →
      (wish ≡ Read → (reply ≡ Seen seen) × (chosen ≡ seen))
      × ((item : V) → wish ≡ Write item →
      ((s : Stamp) × (reply ≡ Written s) × (seen.stamp.tag < limit)
      × (s ≡ record { tag = seen.stamp.tag + 1; writer = process })
      × (chosen ≡ record { stamp = s; item = item }))
      ⊎ ((reply ≡ Ended seen) × (limit ≤ seen.stamp.tag) × (chosen ≡ seen)))

  -- what a call chose is told by its wish and its reply: an item under its stamp, or what was seen
  abbrev pub ChosenShow : Type 0
  ChosenShow = (wish : Wish V) (reply : Reply V) (c : Called V) → HasChosenBy wish reply c.chosen →
      (wish ≡ Read → (p : Posted V) × (reply ≡ Seen p) × (c.chosen ≡ stamped p))
      × ((item : V) → wish ≡ Write item →
      ((s : Stamp) × (reply ≡ Written s) × (c.chosen ≡ record { stamp = s; item = item }))
      ⊎ ((p : Posted V) × (reply ≡ Ended p) × (c.chosen ≡ stamped p)))

module _ {V F S T : Type 0} (words : FamilyWords F (Posted V) S T) (obeys : V → Bool) where
  -- with an empty log no call was made; with one entry one call, after which the pass is still of the board
  abbrev pub EntriesShow : Type 0
  EntriesShow = (board : Board V F S T) (old new : Pass V F S T) (e : Entry V) →
      (AreCalls words obeys board old [] new → old ≡ new)
      × (AreCalls words obeys board old (e ∷ []) new → (seen : Posted V) × IsPass words obeys board new
      × IsCall words obeys board (kind_by e.reply) old new seen
      × Replies board.limit old.process e.wish seen new.own e.reply)

  -- lanes that have worked are those of all processes, in their order, whose passes were fresh
  abbrev pub LanesShow : Type 0
  LanesShow = (board : Board V F S T) (lanes : List (Lane V F S T)) (k : ℕ) (lane : Lane V F S T) →
      HaveWorked words obeys board lanes → (length lanes ≡ board.processes) × (0 < length lanes)
      × (slice_get lanes k ≡ Some lane → (old : Pass V F S T) × HasMade words board old []
      × IsPass words obeys board lane.pass
      × (lane.pass.process ≡ k) × AreCalls words obeys board old lane.log.items lane.pass)

  -- each entry of atomic logs tells of one call of the run, and each call has an entry
  abbrev pub AtomicLogsShow : Type 0
  AtomicLogsShow = (board : Board V F S T) (lanes : List (Lane V F S T)) (last : Posted V) (i : ℕ)
      (lane : Lane V F S T) (e : Entry V) → AreAtomicLogs words board lanes last → slice_get lanes i ≡ Some lane →
      (calls : ℕ → List (Called V)) × IsAtomicRun words board (did_by words (map (λ l. l.pass) lanes) calls) last
      × (lane.log.items ≡ [] → calls i ≡ [])
      × (lane.log.items ≡ e ∷ [] → (c : Called V) × (calls i ≡ c ∷ []) × (c.kind ≡ kind_by e.reply)
      × HasChosenBy e.wish e.reply c.chosen)

module _ {V : Type 0} (equal : V → V → Bool) where
  -- in sound logs each entry is in order and has an origin
  abbrev pub SoundLogsShow : Type 0
  SoundLogsShow = (opening : V) (logs : List (List (Entry V))) (t j : ℕ) (log : List (Entry V)) (e : Entry V) →
      IsOrigin equal opening logs Sound → slice_get logs t ≡ Some log → slice_get log j ≡ Some e →
      IsTrue (in_order t (stamp_before log j) e) × IsTrue (has_origin equal opening logs t (stamp_before log j) e)

  -- the first entry that breaks a rule: all entries of the tasks before it, and those before
  -- it in its log, keep the rule
  pub record BreaksFirst (rule : ℕ → Stamp → Entry V → Bool) (logs : List (List (Entry V)))
      (task call : ℕ) : Type 0 where
    pub log : List (Entry V)
    pub place : ℕ
    pub entry : Entry V
    pub of_task : slice_get logs task ≡ Some log
    pub counted : call ≡ place + 1
    pub there : slice_get log place ≡ Some entry
    pub breaks : IsFalse (rule task (stamp_before log place) entry)
    pub tasks : (t j : ℕ) (other : List (Entry V)) (e : Entry V) → t < task → slice_get logs t ≡ Some other →
        slice_get other j ≡ Some e → IsTrue (rule t (stamp_before other j) e)
    pub entries : (j : ℕ) (e : Entry V) → j < place → slice_get log j ≡ Some e →
        IsTrue (rule task (stamp_before log j) e)

  -- broken logs name the first entry out of order; or all are in order, and they name the first without an origin
  abbrev pub BrokenLogsShow : Type 0
  BrokenLogsShow = (opening : V) (logs : List (List (Entry V))) (task call : ℕ) →
      IsOrigin equal opening logs (Broken task call) → BreaksFirst in_order logs task call
      ⊎ (((t j : ℕ) (log : List (Entry V)) (e : Entry V) → slice_get logs t ≡ Some log → slice_get log j ≡ Some e →
      IsTrue (in_order t (stamp_before log j) e)) × BreaksFirst (has_origin equal opening logs) logs task call)
