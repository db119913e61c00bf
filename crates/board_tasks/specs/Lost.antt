-- Logs of tasks of which some were lost, and whether the others are sound (this project's own).
use Rattle.std.specs.Prelude.{◌≡◌, ◌⊎◌, ◌||◌, Bool, true, false, ℕ, List, [], slice_get, Option, None, Some}
use Rattle.matrix_core.specs.declared.stamp.Stamp.{Stamp}
use Rattle.board_live.specs.declared.record.Posted.{Posted}
use Rattle.board_tasks.specs.declared.lane.Entry.{Entry}
use Rattle.board_tasks.specs.declared.lane.Reply.{Reply}
use Rattle.board_tasks.specs.declared.lane.Reply.TheVariants.{Written, Seen, Ended}
use Rattle.board_tasks.specs.declared.origin.Origin.{Origin}
use Rattle.board_tasks.specs.declared.origin.Origin.TheVariants.{Sound, Broken}
use Rattle.board_tasks.specs.Origins.{AllKeep, in_order, is_known, IsFirstBrokenOrigin}

abbrev pub or_false : Option Bool → Bool
or_false None = false
or_false (Some b) = b

-- the task's log is lost
abbrev pub is_lost : List Bool → ℕ → Bool
is_lost lost task = or_false (slice_get lost task)

module _ {V : Type 0} (equal : V → V → Bool) (opening : V) (lost : List Bool) (logs : List (List (Entry V))) where
  -- the record is of a task whose log is lost, or has its origin
  abbrev pub may_be_known : Posted V → Bool
  may_be_known p = is_lost lost p.stamp.writer || is_known equal opening logs p

  abbrev pub sees_what_may_be_known : Reply V → Bool
  sees_what_may_be_known (Written s) = true
  sees_what_may_be_known (Seen p) = may_be_known p
  sees_what_may_be_known (Ended p) = may_be_known p

  -- *May have an origin*: what the entry saw is such a record
  abbrev pub may_have_origin : ℕ → Stamp → Entry V → Bool
  may_have_origin task before e = sees_what_may_be_known e.reply

  -- the first entry that is out of order, or, where all are in order, the first that can have no origin
  pub record IsBrokenBesideLost (task call : ℕ) : Type 0 where
    pub either : IsFirstBrokenOrigin in_order logs task call
        ⊎ (AllKeep in_order logs × IsFirstBrokenOrigin may_have_origin logs task call)

  -- *Sound beside what is lost*: every entry is in order, and may have an origin. Else this is the first that isn't
  abbrev pub IsOriginBesideLost : Origin → Type 0
  IsOriginBesideLost Sound = AllKeep in_order logs × AllKeep may_have_origin logs
  IsOriginBesideLost (Broken task call) = IsBrokenBesideLost task call

-- the logs are these, but that those of lost tasks may be empty
abbrev pub AreWithoutLost : {V : Type 0} → List Bool → List (List (Entry V)) → List (List (Entry V)) → Type 0
AreWithoutLost lost whole logs = (task : ℕ) →
    (slice_get logs task ≡ slice_get whole task) ⊎ ((is_lost lost task ≡ true) × (slice_get logs task ≡ Some []))
