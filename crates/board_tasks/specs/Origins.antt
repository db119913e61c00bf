-- Where the records of logs come from (this project's own). `equal` is the test by which a type compares its records.
use Rattle.std.specs.Prelude.{◌≡◌, ◌⊎◌, Bool, true, false, IsTrue, IsFalse, ◌&&◌, ◌||◌, nat_eq, ℕ, ◌+◌}
use Rattle.std.specs.Prelude.{◌<◌, List, Option, Some, None}
use Rattle.std.specs.Prelude.{slice_get, map, take}
use Rattle.std.specs.List.{list_any}
use Rattle.history_core.specs.declared.wish.Wish.{Wish}
use Rattle.history_core.specs.declared.wish.Wish.TheVariants.{Write, Read}
use Rattle.matrix_core.specs.declared.stamp.Stamp.{Stamp}
use Rattle.matrix_core.specs.Stamps.{first_stamp, is_below}
use Rattle.cell_contract.specs.Running.{last_or}
use Rattle.board_live.specs.declared.record.Posted.{Posted}
use Rattle.board_tasks.specs.declared.lane.Reply.{Reply}
use Rattle.board_tasks.specs.declared.lane.Reply.TheVariants.{Written, Seen, Ended}
use Rattle.board_tasks.specs.declared.lane.Entry.{Entry}
use Rattle.board_tasks.specs.declared.origin.Origin.{Origin}
use Rattle.board_tasks.specs.declared.origin.Origin.TheVariants.{Sound, Broken}
use Rattle.board_tasks.specs.Logs.{is_at_most, stamp_of}

abbrev pub same_stamp : Stamp → Stamp → Bool
same_stamp a b = nat_eq a.tag b.tag && nat_eq a.writer b.writer

-- the stamp of the reply before this place of a log, 0.0 at the first place
abbrev pub stamp_before : {V : Type 0} → List (Entry V) → ℕ → Stamp
stamp_before log k = last_or first_stamp (map (λ e. stamp_of e.reply) (take k log))

-- ---- a rule of entries, by their task and the stamp of the entry before

module _ {V : Type 0} (rule : ℕ → Stamp → Entry V → Bool) where
  -- the entries of this task's log keep the rule before this place
  abbrev pub KeptBefore : ℕ → List (Entry V) → ℕ → Type 0
  KeptBefore task log k = (j : ℕ) (e : Entry V) → j < k → slice_get log j ≡ Some e →
      IsTrue (rule task (stamp_before log j) e)

  -- the first entry of this task's log that breaks it
  pub record IsFirstIn (task : ℕ) (log : List (Entry V)) (k : ℕ) : Type 0 where
    pub entry : Entry V
    pub at : slice_get log k ≡ Some entry
    pub breaks : IsFalse (rule task (stamp_before log k) entry)
    pub first : KeptBefore task log k

  module _ (logs : List (List (Entry V))) where
    -- all entries of the logs of the tasks before this one keep it
    abbrev pub TasksKeep : ℕ → Type 0
    TasksKeep task =
        (t j : ℕ) (log : List (Entry V)) (e : Entry V) → t < task → slice_get logs t ≡ Some log →
        slice_get log j ≡ Some e → IsTrue (rule t (stamp_before log j) e)

    -- every entry of every log keeps it
    abbrev pub AllKeep : Type 0
    AllKeep = (t j : ℕ) (log : List (Entry V)) (e : Entry V) → slice_get logs t ≡ Some log → slice_get log j ≡ Some e
        → IsTrue (rule t (stamp_before log j) e)

    -- the first entry of all that breaks it, by task and then by call. Tasks count from 0 and calls from 1
    pub record IsFirstBrokenOrigin (task call : ℕ) : Type 0 where
      pub log : List (Entry V)
      pub place : ℕ
      pub at : slice_get logs task ≡ Some log
      pub count : call ≡ place + 1
      pub breaks : IsFirstIn task log place
      pub first : TasksKeep task

-- ---- the two rules

module _ {V : Type 0} where
  -- the reply is one to this wish. A write's stamp names its task and is above the stamp before; that of a record
  -- that was seen isn't below it
  abbrev pub is_reply_at : ℕ → Stamp → Wish V → Reply V → Bool
  is_reply_at task before (Write item) (Written s) = nat_eq s.writer task && is_below before s
  is_reply_at task before (Write item) (Seen p) = false
  is_reply_at task before (Write item) (Ended p) = is_at_most before p.stamp
  is_reply_at task before Read (Written s) = false
  is_reply_at task before Read (Seen p) = is_at_most before p.stamp
  is_reply_at task before Read (Ended p) = false

  -- *In order*: the entry's reply is such a one
  abbrev pub in_order : ℕ → Stamp → Entry V → Bool
  in_order task before e = is_reply_at task before e.wish e.reply

module _ {V : Type 0} (equal : V → V → Bool) where
  -- the call with this wish and this reply wrote the record
  abbrev pub wrote : Posted V → Wish V → Reply V → Bool
  wrote p (Write item) (Written s) = same_stamp s p.stamp && equal item p.item
  wrote p (Write item) (Seen q) = false
  wrote p (Write item) (Ended q) = false
  wrote p Read reply = false

  -- the log has a write of the record; where there is no log there is none
  abbrev pub has_write : Posted V → Option (List (Entry V)) → Bool
  has_write p None = false
  has_write p (Some log) = list_any (λ e. wrote p e.wish e.reply) log

  module _ (opening : V) (logs : List (List (Entry V))) where
    -- the record is the opening at stamp 0.0, or the task that its stamp names has a write of it in its log
    abbrev pub is_known : Posted V → Bool
    is_known p = (same_stamp p.stamp first_stamp && equal p.item opening) || has_write p (slice_get logs p.stamp.writer)

    -- what the reply saw is such a record
    abbrev pub sees_known : Reply V → Bool
    sees_known (Written s) = true
    sees_known (Seen p) = is_known p
    sees_known (Ended p) = is_known p

    -- *Has an origin*: what the entry saw has its write
    abbrev pub has_origin : ℕ → Stamp → Entry V → Bool
    has_origin task before e = sees_known e.reply

    -- the first entry that is out of order, or, where all are in order, the first without an origin
    pub record IsBroken (task call : ℕ) : Type 0 where
      pub either : IsFirstBrokenOrigin in_order logs task call
          ⊎ (AllKeep in_order logs × IsFirstBrokenOrigin has_origin logs task call)

    -- *Sound*: every entry is in order, so that each stamp has one write at most, and has an origin. Else
    -- this is the first that isn't
    abbrev pub IsOrigin : Origin → Type 0
    IsOrigin Sound = AllKeep in_order logs × AllKeep has_origin logs
    IsOrigin (Broken task call) = IsBroken task call
