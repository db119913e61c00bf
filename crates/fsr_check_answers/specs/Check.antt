-- The answer to a document of kind `check`: the verdict on its order with its status, or
-- the fault (this project's own).
use Rattle.std.specs.Prelude.{◌≡◌, ℕ, List, Result, Ok, Err}
use Rattle.program_streams.specs.Exits.{status_of}
use Rattle.program_streams.specs.declared.exit.Exit.{Exit}
use Rattle.program_streams.specs.declared.exit.Exit.TheVariants as exit
use Rattle.history_core.specs.Orders.{IsVerdict}
use Rattle.history_core.specs.declared.band.Band.{Band}
use Rattle.history_core.specs.declared.history.History.{History}
use Rattle.history_core.specs.declared.history.Verdict.{Verdict}
use Rattle.history_core.specs.declared.history.Verdict.TheVariants.{Lawful, Listing, Precedence, Reading, Limit}
use Rattle.read_history.specs.Check.{check_of}
use Rattle.read_history.specs.Verdicts.{verdict_text}
use Rattle.read_history.specs.declared.document.CheckDocument.{CheckDocument}
use Rattle.program_runs.specs.Answers.{AnswersReading}
use Rattle.program_runs.specs.declared.fault.Answer.{Answer}
use Rattle.program_runs.specs.declared.fault.Fault.{Fault}

-- how a run with this verdict ends
abbrev pub exit_of : Verdict → Exit
exit_of Lawful = exit.Sound
exit_of Listing = exit.Unsound
exit_of Precedence = exit.Unsound
exit_of Reading = exit.Unsound
exit_of Limit = exit.Unsound

-- the line of a verdict, with its status
abbrev pub printed : Verdict → Answer
printed v = record { text = verdict_text v; status = status_of (exit_of v) }

-- the verdict on an order of a history of bands
abbrev pub IsVerdictOn : History Band → List ℕ → Verdict → Type 0
IsVerdictOn history order v = IsVerdict (λ x y. x ≡ y) history.opening history.terms history.ops order v

-- the answer to a history and an order of it: the text of the verdict
abbrev pub AnswersCheck : CheckDocument → Result Answer Fault → Type 0
AnswersCheck document (Ok answer) =
    (v : Verdict) × IsVerdictOn document.history document.order v × (answer ≡ printed v)
AnswersCheck document (Err fault) = ⊥

-- the answer of the command `check` to the bytes of a document
abbrev pub IsCheckAnswer : List ℕ → Result Answer Fault → Type 0
IsCheckAnswer bytes reply = AnswersReading AnswersCheck (check_of bytes) reply
