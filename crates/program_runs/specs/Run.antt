-- What a run over a document does to its streams (this project's own).
use Rattle.std.specs.Prelude.{◌≡◌, ◌≢◌, ◌≤◌, ◌<◌, ◌+◌, ◌⊎◌, ◌↔◌, ℕ, Bool, true, false, List, []}
use Rattle.std.specs.Prelude.{length, Option, Result, Ok, Err, Vec}
use Rattle.std.specs.declared.alloc.Global.{Global}
use Rattle.std.specs.Io.{StartsWith}
use Rattle.std.specs.Io.KnownBytes.{Consumes, Appends, IsAtEnd}
use Rattle.program_streams.specs.Exits.{status_of}
use Rattle.program_streams.specs.Spaces.{ends_in_space, most_kept_space, space_behind}
use Rattle.program_streams.specs.Transfer.{most_taken, TellsLine}
use Rattle.program_streams.specs.declared.exit.Exit.{Exit}
use Rattle.program_streams.specs.declared.exit.Exit.TheVariants as exit
use Rattle.program_streams.specs.declared.transfer.InputFault.{InputFault}
use Rattle.program_streams.specs.declared.transfer.InputFault.TheVariants as input
use Rattle.program_runs.specs.declared.fault.Answer.{Answer}
use Rattle.program_runs.specs.declared.fault.Fault.{Fault}
use Rattle.program_runs.specs.declared.run.Program.{Program}
use Rattle.program_runs.specs.declared.fault.Fault.TheVariants.{Document, History, Lines, Schedule, NoMemory, NoThread}
use Rattle.program_runs.specs.declared.fault.Fault.TheVariants.{Undecided}

-- how a run with this fault ends
abbrev pub exit_of : Fault → Exit
exit_of (Document refusal) = exit.Refused
exit_of (History fault) = exit.Refused
exit_of (Lines fault) = exit.Refused
exit_of (Schedule position) = exit.Refused
exit_of NoMemory = exit.NoMemory
exit_of NoThread = exit.NoThread
exit_of (Undecided line) = exit.Undecided

abbrev pub fault_status : Fault → ℕ
fault_status fault = status_of (exit_of fault)

-- what goes out with which status: of a fault nothing
abbrev pub told_by : Result Answer Fault → Answer
told_by (Ok answer) = answer
told_by (Err fault) = record { text = []; status = fault_status fault }

-- what comes of a run that is asked for nothing that the program does: nothing, with status 2
abbrev pub nothing_asked : Answer
nothing_asked = record { text = []; status = status_of exit.NoCommand }

-- what comes of an input that has such replies
abbrev pub IsToldBy : (List ℕ → Result Answer Fault → Type 0) → List ℕ → Answer → Type 0
IsToldBy IsReply bytes told = (reply : Result Answer Fault) × IsReply bytes reply × (told ≡ told_by reply)

-- these bytes are the front of a text that comes of the input
abbrev pub IsFront : (List ℕ → Answer → Type 0) → List ℕ → List ℕ → Type 0
IsFront IsOutcome taken sent = (told : Answer) × IsOutcome taken told × StartsWith told.text sent

-- no input is without a bound: the longest document, and one byte more, is taken at most
abbrev pub never : List ℕ → Bool
never taken = false

-- No more was taken than a run takes, unless it is of a kind without a bound; and no more white
-- space at its end than is kept.
abbrev pub IsInBound : (List ℕ → Bool) → List ℕ → Type 0
IsInBound is_unbounded taken = (is_unbounded taken ≡ false → length taken ≤ most_taken)
    × (space_behind taken ≤ most_kept_space)

abbrev pub TakesInBound : (List ℕ → Bool) → Option (List ℕ) → Option (List ℕ) → List ℕ → Type 0
TakesInBound is_unbounded old new taken = Consumes old new taken × IsInBound is_unbounded taken

-- the input was taken to its end; or, where it has a bound, up to that; or until it ended in more white
-- space than may stand behind a log
abbrev pub IsWholeInput : (List ℕ → Bool) → List ℕ → Option (List ℕ) → Type 0
IsWholeInput is_unbounded taken left =
    IsAtEnd left ⊎ (((is_unbounded taken ≡ false) × (length taken ≡ most_taken)) ⊎ (ends_in_space taken ≡ true))

-- A run ended with this status, in which such an outcome comes of the input, which is taken to its end, or to too much
-- white space, where it is of a kind without a bound. in_old and in_new are the bytes that were left of the input
-- before and after, out_old and out_new those that had gone out.
pub record Runs (IsOutcome : List ℕ → Answer → Type 0) (is_unbounded : List ℕ → Bool)
    (in_old in_new out_old out_new : Option (List ℕ)) (status : ℕ) : Type 0 where
  pub taken : List ℕ
  pub sent : List ℕ
  pub takes : Consumes in_old in_new taken
  pub at_most : IsInBound is_unbounded taken
  pub sends : Appends out_old out_new sent
  -- what went out is a front of the text for the whole input, also after a failed write
  pub front : (sent ≡ []) ⊎ (IsFront IsOutcome taken sent × IsWholeInput is_unbounded taken in_new)
  -- with a status from 2 nothing goes out, but for a front before a write failed, and for an answer that little shows
  pub silent : 2 ≤ status → status ≢ 5 → status ≢ 8 → sent ≡ []
  -- but for want of memory and failed streams, the text goes out whole, with its status
  pub told : status ≢ 4 → status ≢ 5 → IsOutcome taken (record { text = sent; status = status })
  pub whole : status ≢ 2 → status ≢ 4 → status ≢ 5 → IsWholeInput is_unbounded taken in_new

-- The failures of the input and of the output before and after: status 5 is answered exactly where one more was
-- counted, and both together count one more at most.
pub record Fails (in_old in_new out_old out_new status : ℕ) : Type 0 where
  pub five : (status ≡ 5) ↔ ((in_old < in_new) ⊎ (out_old < out_new))
  pub once : in_new + out_new ≤ in_old + out_old + 1

-- ---- the parts of a run

-- the input was taken whole, or as far as it was before the run ended
abbrev pub TakesDocument : (List ℕ → Bool) → Option (List ℕ) → Option (List ℕ) → Result (Vec ℕ Global) ℕ → Type 0
TakesDocument is_unbounded old new (Ok v) = TakesInBound is_unbounded old new v.items
    × IsWholeInput is_unbounded v.items new
TakesDocument is_unbounded old new (Err status) = (taken : List ℕ) × TakesInBound is_unbounded old new taken

-- the status that a run ends with whose input was not read, and its line
abbrev pub untaken_status : InputFault → ℕ
untaken_status input.Failed = 5
untaken_status input.NoMemory = 4

abbrev pub untaken_line : Program → InputFault → List ℕ
untaken_line program input.Failed = program.read_failed.now
untaken_line program input.NoMemory = program.no_memory.now

-- the status is 5 where a read failed, and else that of want of memory
abbrev pub CountsUntaken : ℕ → ℕ → ℕ → Type 0
CountsUntaken old new status = ((status ≡ 5) × (new ≡ old + 1)) ⊎ ((status ≡ 4) × (new ≡ old))

abbrev pub CountsTaking : {T : Type 0} → ℕ → ℕ → Result T ℕ → Type 0
CountsTaking old new (Ok v) = new ≡ old
CountsTaking old new (Err status) = CountsUntaken old new status

-- the failures of the stream of fault lines, which has a line where the input wasn't taken
abbrev pub TellsUnlessTaken : {T : Type 0} → ℕ → ℕ → Result T ℕ → Type 0
TellsUnlessTaken old new (Ok v) = new ≡ old
TellsUnlessTaken old new (Err status) = new ≤ old + 1

-- The text of an answer went out whole, with its status; or a front of it, and the stream failed.
-- Of a fault nothing goes out.
abbrev pub GivesAnswer : Result Answer Fault → Option (List ℕ) → Option (List ℕ) → ℕ → ℕ → ℕ → Type 0
GivesAnswer (Ok answer) old new failed_old failed_new status =
    (Appends old new answer.text × (failed_new ≡ failed_old) × (status ≡ answer.status))
    ⊎ (((sent : List ℕ) × StartsWith answer.text sent × Appends old new sent)
    × (failed_new ≡ failed_old + 1) × (status ≡ 5))
GivesAnswer (Err fault) old new failed_old failed_new status =
    (new ≡ old) × (failed_new ≡ failed_old) × ((status ≡ fault_status fault) ⊎ (status ≡ 4))

-- the line of a fault went out, with its status
abbrev pub TellsAs : Fault → List ℕ → Option (List ℕ) → Option (List ℕ) → ℕ → ℕ → ℕ → Type 0
TellsAs fault line old new failed_old failed_new status = TellsLine old new failed_old failed_new line
    × (status ≡ fault_status fault)

-- The line of a fault went out, or the stream failed within it. That of want of memory and that of a
-- thread that can't start are the program's own. Where there is no memory for another line, that of want
-- of memory went out, with its status.
abbrev pub TellsFault : Program → Fault → Option (List ℕ) → Option (List ℕ) → ℕ → ℕ → ℕ → Type 0
TellsFault program NoMemory = TellsAs NoMemory program.no_memory.now
TellsFault program NoThread = TellsAs NoThread program.no_thread.now
TellsFault program fault = λ old new failed_old failed_new status.
    ((line : List ℕ) × TellsAs fault line old new failed_old failed_new status)
    ⊎ TellsAs NoMemory program.no_memory.now old new failed_old failed_new status
