-- The answer to a document that may be refused, and what a call gives of it (this project's own).
use Rattle.std.specs.Prelude.{◌≡◌, ◌≢◌, ◌≤◌, ◌⊎◌, Result, Ok, Err}
use Rattle.read_document.specs.declared.refusal.DocError.{DocError}
use Rattle.program_runs.specs.declared.fault.Answer.{Answer}
use Rattle.program_runs.specs.declared.fault.Fault.{Fault}
use Rattle.program_runs.specs.declared.fault.Fault.TheVariants as fault

-- the answer to a document that may be refused, which is the fault then
abbrev pub AnswersReading : {D : Type 0} → (D → Result Answer Fault → Type 0) → Result D DocError →
    Result Answer Fault → Type 0
AnswersReading Answers (Ok document) reply = Answers document reply
AnswersReading Answers (Err refusal) reply = reply ≡ Err (fault.Document refusal)

-- what a call returned is such a reply, unless memory ran out
abbrev pub GivesReply : (Result Answer Fault → Type 0) → Result Answer Fault → Type 0
GivesReply IsReply (Ok answer) = IsReply (Ok answer)
GivesReply IsReply (Err e) = e ≢ fault.NoMemory → IsReply (Err e)

-- an answer has status 0 or 1, or 8 of one that little shows
abbrev pub HasAnswerStatus : Result Answer Fault → Type 0
HasAnswerStatus (Ok answer) = (answer.status ≤ 1) ⊎ (answer.status ≡ 8)
HasAnswerStatus (Err e) = Unit {0}
