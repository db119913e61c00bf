-- The answer to a log in lines that is asked for its coherence: a coherent order of it, or why there is none; or the
-- fault (this project's own).
use Rattle.std.specs.Prelude.{◌≡◌, ℕ, Bool, true, false, List, Result, Ok, Err}
use Rattle.history_coherence.specs.Answers.{IsCoherence}
use Rattle.history_coherence.specs.declared.coherence.Coherence.{Coherence}
use Rattle.lines_log.specs.Faults.{IsLinesFault, refused_at}
use Rattle.program_runs.specs.declared.fault.Answer.{Answer}
use Rattle.program_runs.specs.declared.fault.Fault.{Fault}
use Rattle.read_document.specs.declared.key.Key.TheVariants.{Repeats}
use Rattle.read_document.specs.declared.refusal.DocError.TheVariants.{Law}
use Rattle.read_line.specs.Repeats.{has_repeats}
use Rattle.whole_log.specs.WholeLogs.{IsWholeLog}
use Rattle.whole_log.specs.declared.whole_log.WholeLog.{WholeLog}
use Rattle.fsr_coherent_answers.specs.CoherenceText.{printed}

-- what was found of this log is printed: a coherent order, or that there is none, and why
abbrev pub IsFoundCoherence : List ℕ → WholeLog → Answer → Type 0
IsFoundCoherence bytes log answer =
    (found : Coherence) × IsCoherence log.ops.items found × (answer ≡ printed bytes log found)

-- the answer where records are written once, by the log that the bytes stand for
abbrev pub IsOnceAnswer : List ℕ → Result Answer Fault → Type 0
IsOnceAnswer bytes (Ok answer) = (log : WholeLog) × IsWholeLog bytes log × IsFoundCoherence bytes log answer
IsOnceAnswer bytes (Err f) = IsLinesFault bytes f

-- by whether records repeat: then the header is refused
abbrev pub IsAnswerUnless : Bool → List ℕ → Result Answer Fault → Type 0
IsAnswerUnless true bytes reply = reply ≡ Err (refused_at 1 (Law Repeats))
IsAnswerUnless false bytes reply = IsOnceAnswer bytes reply

abbrev pub IsCoherenceAnswer : List ℕ → Result Answer Fault → Type 0
IsCoherenceAnswer bytes reply = IsAnswerUnless (has_repeats bytes) bytes reply
