-- The answer to a log in lines of one key whose records are written once, and to any other document (this project's
-- own).
use Rattle.std.specs.Prelude.{◌≡◌, ℕ, List, Bool, true, false, Result, Ok, Err}
use Rattle.lines_log.specs.Faults.{refused_at}
use Rattle.program_runs.specs.declared.fault.Answer.{Answer}
use Rattle.program_runs.specs.declared.fault.Fault.{Fault}
use Rattle.program_runs.specs.declared.fault.Fault.TheVariants as fault
use Rattle.program_runs.specs.declared.fault.LinesFault.TheVariants.{Headless}
use Rattle.program_runs.specs.declared.show.Show.{Show}
use Rattle.fsr_order_input.specs.Kinds.{are_lines}
use Rattle.read_document.specs.declared.key.Key.TheVariants.{Repeats}
use Rattle.read_document.specs.declared.refusal.DocError.{DocError}
use Rattle.read_document.specs.declared.refusal.DocError.TheVariants as doc
use Rattle.read_line.specs.Lines.{Head, head_of}
use Rattle.read_line.specs.Repeats.{has_repeats}
use Rattle.fsr_once_answers.specs.LinesAnswers.{IsLinesAnswer}

-- the answer to a log in lines by whether its records repeat: then its header is refused. So is an operation of another
-- key than the first.
abbrev pub IsOnceInLines : Show → Bool → List ℕ → Result Answer Fault → Type 0
IsOnceInLines show true bytes reply = reply ≡ Err (refused_at 1 (doc.Law Repeats))
IsOnceInLines show false bytes reply = IsLinesAnswer show bytes reply

-- how it is told that bytes are no document, or one of another kind
abbrev pub other_fault : DocError → Fault
other_fault doc.NotJson = fault.Lines (Headless doc.NotJson)
other_fault doc.Long = fault.Lines (Headless doc.Long)
other_fault doc.NoMemory = fault.NoMemory
other_fault why = fault.Document doc.Kind

-- the same by what the bytes say as a header, which are no log in lines
abbrev pub fault_of : Result Head DocError → Fault
fault_of (Ok head) = fault.Document doc.Kind
fault_of (Err why) = other_fault why

abbrev pub IsOtherDocument : List ℕ → Result Answer Fault → Type 0
IsOtherDocument bytes reply = reply ≡ Err (fault_of (head_of bytes))

-- the answer by the kind: whether the document is a log in lines
abbrev pub IsOnceBy : Show → Bool → List ℕ → Result Answer Fault → Type 0
IsOnceBy show true bytes reply = IsOnceInLines show (has_repeats bytes) bytes reply
IsOnceBy show false bytes reply = IsOtherDocument bytes reply

-- the answer to the bytes of a log in lines of one key whose records are written once, or the refusal of what is none
abbrev pub IsAnswerOnce : Show → List ℕ → Result Answer Fault → Type 0
IsAnswerOnce show bytes reply = IsOnceBy show (are_lines bytes) bytes reply
