-- The answer to a log in lines of which a small log is asked for (this project's own).
use Rattle.std.specs.Prelude.{◌≡◌, ℕ, Bool, List, unwrap_or, Result, Ok, Err}
use Rattle.program_runs.specs.declared.fault.Answer.{Answer}
use Rattle.program_runs.specs.declared.fault.Fault.{Fault}
use Rattle.history_core.specs.declared.history.Op.{Op}
use Rattle.history_core.specs.declared.thinned.LogAnswer.{LogAnswer}
use Rattle.history_thinning.specs.Answers.{IsThinnedAnswer, IsOfKept}
use Rattle.lines_log.specs.Faults.{IsLinesFault}
use Rattle.lines_log.specs.Logs.{IsLinesLog}
use Rattle.kept_lines.specs.declared.lines_log.LinesLog.{LinesLog}
use Rattle.fsr_once_answers.specs.LinesAnswers.{status_of}
use Rattle.small_log.specs.Small.{small_text}

-- the small log of what was found, with its status
abbrev pub printed : Bool → LinesLog → LogAnswer → Answer
printed strict read found = record { text = small_text read.thinned found; status = status_of strict read found }

-- a small log by what was found of the whole log that the bytes stand for: a lawful order of it, or that there is none,
-- with a reason, whose operations are kept
pub record FoundSmall (strict : Bool) (bytes : List ℕ) (answer : Answer) : Type 0 where
  pub log : List (Op ℕ)
  pub read : LinesLog
  pub found : LogAnswer
  pub is : IsLinesLog bytes log read
  pub answered : IsThinnedAnswer (unwrap_or is.head.limit 1) log found
  pub named : IsOfKept read.thinned.places found
  pub told : answer ≡ printed strict read found

-- the answer to the bytes of a log in lines
abbrev pub IsSmallAnswer : Bool → List ℕ → Result Answer Fault → Type 0
IsSmallAnswer strict bytes (Ok answer) = FoundSmall strict bytes answer
IsSmallAnswer strict bytes (Err f) = IsLinesFault bytes f
