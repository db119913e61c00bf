-- The answer to a log whose records are written once has status 0 or 1, or that of little.
use Rattle.std.proofs.Common.{rules, ℕ, List, Bool, true, false, Result, Ok, Err}
use Rattle.program_runs.specs.Answers.{GivesReply, HasAnswerStatus}
use Rattle.program_runs.specs.declared.fault.Answer.{Answer}
use Rattle.program_runs.specs.declared.fault.Fault.{Fault}
use Rattle.program_runs.specs.declared.show.Show.{Show}
use Rattle.fsr_order_input.specs.Kinds.{are_lines}
use Rattle.read_line.specs.Repeats.{has_repeats}
use Rattle.fsr_once_answers.proofs.StatusLemmas.{status_lines}
use Rattle.fsr_once_answers.specs.Once.{IsOnceBy, IsOnceInLines, IsOtherDocument, IsAnswerOnce}

status_in_lines : (show : Show) (repeats : Bool) (bytes : List ℕ) (r : Result Answer Fault) →
    GivesReply (IsOnceInLines show repeats bytes) r → HasAnswerStatus r
status_in_lines show true bytes (Ok a) refused = cc
status_in_lines show true bytes (Err e) refused = search rules
status_in_lines show false bytes r answered = status_lines show bytes r answered

status_other : (bytes : List ℕ) (r : Result Answer Fault) → GivesReply (IsOtherDocument bytes) r → HasAnswerStatus r
status_other bytes (Ok a) refused = cc
status_other bytes (Err e) refused = search rules

status_by : (show : Show) (in_lines : Bool) (bytes : List ℕ) (r : Result Answer Fault) →
    GivesReply (IsOnceBy show in_lines bytes) r → HasAnswerStatus r
status_by show true bytes r answered = status_in_lines show (has_repeats bytes) bytes r answered
status_by show false bytes r answered = status_other bytes r answered

pub status_once : (show : Show) (bytes : List ℕ) (r : Result Answer Fault) → GivesReply (IsAnswerOnce show bytes) r → HasAnswerStatus r
status_once show bytes r answered = status_by show (are_lines bytes) bytes r answered
