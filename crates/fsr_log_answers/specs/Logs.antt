-- The answer to a document of kind `log`: a lawful order of its operations, or that there is none, or
-- the fault (this project's own).
use Rattle.std.specs.Prelude.{◌≡◌, ℕ, List, Result, Ok, Err}
use Rattle.read_document.specs.declared.refusal.DocError.{DocError}
use Rattle.read_document.specs.declared.refusal.DocError.TheVariants as doc
use Rattle.program_runs.specs.declared.fault.Answer.{Answer}
use Rattle.program_runs.specs.declared.fault.Fault.{Fault}
use Rattle.program_runs.specs.declared.fault.Fault.TheVariants as fault
use Rattle.program_runs.specs.declared.fault.LinesFault.TheVariants.{Headless}
use Rattle.history_core.specs.declared.band.Band.{Band}
use Rattle.history_core.specs.declared.history.History.{History}
use Rattle.read_log.specs.Logs.{IsLogFault, IsLogSearch}
use Rattle.fsr_log_answers.specs.Text.{search_text}
use Rattle.read_log.specs.Log.{log_of}
use Rattle.history_core.specs.declared.reason.Search.{Search}
use Rattle.history_core.specs.declared.reason.Search.TheVariants.{Order, Unlawful}

-- the status of what was found: 0 where there is a lawful order, else 1
abbrev pub status_of : Search → ℕ
status_of (Order order) = 0
status_of (Unlawful reason) = 1

-- the lines of what was found, with its status
abbrev pub printed : Search → Answer
printed search = record { text = search_text search; status = status_of search }

-- the answer to a log: the lines of a lawful order, or of a reason where no order is lawful
abbrev pub AnswersOrder : History Band → Result Answer Fault → Type 0
AnswersOrder log (Ok answer) = (search : Search) × IsLogSearch log search × (answer ≡ printed search)
AnswersOrder log (Err (fault.Document refusal)) = ⊥
AnswersOrder log (Err (fault.History why)) = IsLogFault log (fault.History why)
AnswersOrder log (Err (fault.Lines why)) = ⊥
AnswersOrder log (Err (fault.Schedule position)) = ⊥
AnswersOrder log (Err fault.NoMemory) = ⊥
AnswersOrder log (Err fault.NoThread) = ⊥
AnswersOrder log (Err (fault.Undecided line)) = ⊥

-- how the refusal of bytes is told that have no header of kind `lines`
abbrev pub fault_of : DocError → Fault
fault_of doc.NotJson = fault.Lines (Headless doc.NotJson)
fault_of doc.Long = fault.Lines (Headless doc.Long)
fault_of doc.NoMemory = fault.NoMemory
fault_of why = fault.Document why

-- the answer to what was read, which is the fault if it was refused
abbrev pub AnswersRead : Result (History Band) DocError → Result Answer Fault → Type 0
AnswersRead (Ok log) reply = AnswersOrder log reply
AnswersRead (Err why) reply = reply ≡ Err (fault_of why)

-- the answer to the bytes of a document of kind `log`
abbrev pub IsLogAnswer : List ℕ → Result Answer Fault → Type 0
IsLogAnswer bytes reply = AnswersRead (log_of bytes) reply
