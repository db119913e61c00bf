-- What a race tells: its scripts are run as tasks over a running board of any family (this project's own).
use Rattle.std.specs.Prelude.{◌≡◌, Bool, true, false, ◌&&◌, nat_eq, ℕ, ◌+◌, List, length, map, count_by}
use Rattle.std.specs.Prelude.{slice_get, Option, Some, None}
use Rattle.history_core.specs.declared.band.Band.{Band}
use Rattle.history_core.specs.declared.wish.Wish.{Wish}
use Rattle.history_core.specs.declared.wish.Wish.TheVariants.{Write, Read}
use Rattle.matrix_core.specs.Stamps.{first_stamp}
use Rattle.history_core.specs.Band.{fits}
use Rattle.cell_contract.specs.declared.family.Family.{Ghosts as FamilyWords}
use Rattle.board_live.specs.declared.board.Board.{Board}
use Rattle.board_live.specs.declared.board.Pass.{Pass}
use Rattle.board_live.specs.declared.record.Posted.{Posted}
use Rattle.board_live.specs.Deals.{IsNew}
use Rattle.board_live.specs.Ends.{IsGreatest}
use Rattle.board_tasks.specs.LogOrders.{LogsInOrder}
use Rattle.board_tasks.specs.declared.lane.Entry.{Entry}
use Rattle.board_tasks.specs.declared.lane.Lane.{Lane}
use Rattle.board_tasks.specs.declared.lane.Reply.{Reply}
use Rattle.board_tasks.specs.declared.lane.Reply.TheVariants.{Written, Seen, Ended}
use Rattle.board_tasks.specs.Jobs.{EachStep}
use Rattle.board_tasks.specs.Lanes.{AreLanes}
use Rattle.board_tasks.specs.Tasks.{Ran}
use Rattle.board_tasks.specs.Worked.{AreAtomicLogs, logs_of}
use Rattle.board_tasks.specs.declared.origin.Origin.{Origin}
use Rattle.board_tasks.specs.declared.origin.Origin.TheVariants.{Sound, Broken}
use Rattle.board_tasks.specs.Origins.{IsOrigin}
use Rattle.print_report.specs.declared.report.Counts.{Counts}
use Rattle.print_report.specs.declared.report.Report.{Report}
use Rattle.print_report.specs.declared.report.Report.TheVariants.{Race}

abbrev pub same_band : Band → Band → Bool
same_band a b = nat_eq a.lo b.lo && (nat_eq a.now b.now && nat_eq a.hi b.hi)

-- ---- what the logs say

abbrev pub is_written : Reply Band → Bool
is_written (Written s) = true
is_written (Seen p) = false
is_written (Ended p) = false

abbrev pub is_seen : Reply Band → Bool
is_seen (Written s) = false
is_seen (Seen p) = true
is_seen (Ended p) = false

abbrev pub is_refused : Reply Band → Bool
is_refused (Written s) = false
is_refused (Seen p) = false
is_refused (Ended p) = true

-- how many entries of a log have such a reply
abbrev pub replies : (Reply Band → Bool) → List (Entry Band) → ℕ
replies are log = count_by (λ entry. are entry.reply) log

-- how many writes, reads and refused writes a log has
abbrev pub counts_of : List (Entry Band) → Counts
counts_of log =
    record { writes = replies is_written log; reads = replies is_seen log; refused = replies is_refused log }

-- the first entry without its origin, by task and call
abbrev pub broken_at : Origin → Option (ℕ × ℕ)
broken_at Sound = None
broken_at (Broken task call) = Some (task, call)

-- ---- the race

-- over any family
module _ {F S T : Type 0} (family : FamilyWords F (Posted Band) S T) where
  abbrev pub counts_in : List (Lane Band F S T) → List Counts
  counts_in lanes = map (λ lane. counts_of lane.log.items) lanes

  -- *Race*: a new board has a lane for each script. Each lane ran: the board calls that were made stand in its log, and
  -- the log is whole, or the task may stop before the next call. The entries tell of calls that are atomic by their
  -- intervals, after which the register holds the last record, the greatest of all. The logs have one order, and each
  -- entry is sound. What is told are the counts of the logs, and that no entry is without its origin.
  pub record IsRace (may_call may_stop : ℕ → ℕ → Type 0) (opening : Band) (limit : ℕ)
      (scripts : List (List (Wish Band))) (report : Report) : Type 0 where
    pub board : Board Band F S T
    pub passes : List (Pass Band F S T)
    pub lanes : List (Lane Band F S T)
    pub ended : List (Lane Band F S T)
    pub last : Posted Band
    pub new : IsNew family fits (length scripts) limit (record { stamp = first_stamp; item = opening }) board passes
    pub begins : AreLanes fits passes scripts lanes
    pub ran : EachStep (Ran family fits may_call may_stop board) 0 lanes ended
    pub greatest : IsGreatest (map (λ l. l.pass) ended) last
    pub atomic : AreAtomicLogs family board ended last
    pub ordered : LogsInOrder opening limit (logs_of ended) last
    pub checked : IsOrigin same_band opening (logs_of ended) Sound
    pub told : report ≡ Race (counts_in ended) None

-- ---- scripts that were run whole

abbrev pub is_read : Wish Band → Bool
is_read (Write item) = false
is_read Read = true

abbrev pub is_write : Wish Band → Bool
is_write (Write item) = true
is_write Read = false

-- the reads are the script's, and its writes were written or refused
pub record CountsScript (script : List (Wish Band)) (counts : Counts) : Type 0 where
  pub reads : counts.reads ≡ count_by is_read script
  pub writes : counts.writes + counts.refused ≡ count_by is_write script

-- so for each task
pub record CountsScripts (scripts : List (List (Wish Band))) (tasks : List Counts) : Type 0 where
  pub all : length tasks ≡ length scripts
  pub each : (task : ℕ) (script : List (Wish Band)) (counts : Counts) → slice_get scripts task ≡ Some script
      → slice_get tasks task ≡ Some counts → CountsScript script counts

abbrev pub CountsAll : List (List (Wish Band)) → Report → Type 0
CountsAll scripts (Race tasks broken) = CountsScripts scripts tasks
CountsAll scripts other = ⊥
