-- What one more line of a log that is watched comes to: it goes on, or something is told at once (this project's own).
-- What is lawful is so by M. Herlihy and J. Wing, Linearizability, ACM TOPLAS 12, 1990.
use Rattle.std.specs.Prelude.{◌≡◌, ◌⊎◌, ℕ, ◌<◌, List, is_some, Option, None, Some, Result, Ok, Err}
use Rattle.object_core.specs.declared.operation.Operation.{Operation}
use Rattle.object_core.specs.Logs.{IsLinearizable}
use Rattle.object_watch.specs.Watches.{AreTooManyAt, IsLawfulBetween, IsFirstLost}
use Rattle.program_runs.specs.declared.fault.Fault.TheVariants.{Undecided}
use Rattle.read_document.specs.declared.refusal.DocError.{DocError}
use Rattle.read_document.specs.declared.refusal.DocError.TheVariants.{NotJson}
use Rattle.watch_lines.specs.Lined.{lined_after}
use Rattle.watch_lines.specs.Seen.{counts_of, fault_of, HasLine, opened_with, refusal_at, LinesSeen}
use Rattle.watch_lines.specs.Tasks.{moment_of}
use Rattle.watch_lines.specs.WatchEntries.{watch_entry_of, WatchEntry}
use Rattle.watch_lines.specs.WatchHeads.{watch_head_of, WatchHead}
use Rattle.watch_lines.specs.declared.lined.Lined.{Lined}
use Rattle.watch_lines.specs.declared.lined.LinedRegister.{LinedRegister}
use Rattle.watch_lines.specs.declared.told.Told.{Told}
use Rattle.watch_lines.specs.declared.told.Told.TheVariants.{Lawful, Lost}
use Rattle.watch_lines.specs.declared.told.WatchFault.{WatchFault}
use Rattle.watch_lines.specs.declared.told.WatchFault.TheVariants.{Below, Refused}

-- the opening is the record 0
abbrev pub opened : LinedRegister
opened = record { register = record { held = 0 } }

-- the log is lost at this moment, when the operation on this line ended, and was lawful before, from another moment on
abbrev pub IsLostOn : List (Operation Lined) → ℕ → ℕ → ℕ → Type 0
IsLostOn log from at line = (op : Operation Lined) × IsFirstLost lined_after opened log from at op ×
    (op.what.line ≡ line)

-- there are too many configurations at an end of one of the operations, before which the log was lawful
abbrev pub IsGivenUp : List (Operation Lined) → ℕ → ℕ → Type 0
IsGivenUp log from at = AreTooManyAt lined_after opened log from at

-- what a line comes to, or the end of the input
pub data Outcome : Type 0 where
  goes_on : LinesSeen → Outcome
  stops : Result Told WatchFault → Outcome

-- ---- the floor rises, by this line

-- where the floor rises, the log is lawful at each moment in between
abbrev pub IsLawfulTo : List (Operation Lined) → ℕ → ℕ → Type 0
IsLawfulTo log from to = from < to → IsLawfulBetween lined_after opened log from to

-- what is told where the floor rises so far, by this line: that the log is lost, or that there is no verdict
abbrev pub RisesTo : List (Operation Lined) → ℕ → ℕ → ℕ → Result Told WatchFault → Type 0
RisesTo log from to line (Ok (Lost at last)) = (at < to) × IsLostOn log from at last
RisesTo log from to line (Ok (Lawful counts ended)) = ⊥
RisesTo log from to line (Err (Refused f)) = (f ≡ Undecided line) × (at : ℕ) × (at < to) × IsGivenUp log from at
RisesTo log from to line (Err (Below late high)) = ⊥

-- ---- a line

-- the first line is the header
abbrev pub IsHeader : Result WatchHead DocError → Outcome → Type 0
IsHeader (Ok head) outcome = outcome ≡ goes_on (opened_with head)
IsHeader (Err why) outcome = outcome ≡ stops (Err (refusal_at 1 why))

-- a line that says this has no fault, and the log stays lawful; or it has one, or the log is lost
abbrev pub IsStep : LinesSeen → Result WatchEntry DocError → Outcome → Type 0
IsStep s entry (goes_on t) = (fault_of s entry ≡ None) × HasLine s entry t
    × IsLawfulTo t.log (moment_of s.high) (moment_of t.high)
IsStep s entry (stops reply) = ((f : WatchFault) × (fault_of s entry ≡ Some f) × (reply ≡ Err f))
    ⊎ ((fault_of s entry ≡ None) × (t : LinesSeen) × HasLine s entry t
    × RisesTo t.log (moment_of s.high) (moment_of t.high) t.lines reply)

-- what a line comes to, behind the lines before it, if there are any
abbrev pub ComesTo : Option LinesSeen → List ℕ → Outcome → Type 0
ComesTo None line outcome = IsHeader (watch_head_of line) outcome
ComesTo (Some s) line outcome = IsStep s (watch_entry_of line) outcome

-- ---- the end of the input

-- the whole log is lawful; or it is lost at this moment; or there is no verdict
abbrev pub EndsAs : LinesSeen → Result Told WatchFault → Type 0
EndsAs s (Ok (Lawful counts ended)) =
    IsLinearizable lined_after opened s.log × (counts ≡ counts_of s) × (ended ≡ is_some s.ended)
EndsAs s (Ok (Lost at line)) =
    IsLostOn s.log (moment_of s.high) at line × ¬ IsLinearizable lined_after opened s.log
EndsAs s (Err (Refused f)) = (f ≡ Undecided s.lines) × (at : ℕ) × IsGivenUp s.log (moment_of s.high) at
EndsAs s (Err (Below line high)) = ⊥

abbrev pub IsLastAnswer : Option LinesSeen → Result Told WatchFault → Type 0
IsLastAnswer None reply = reply ≡ Err (refusal_at 1 NotJson)
IsLastAnswer (Some s) reply = EndsAs s reply
