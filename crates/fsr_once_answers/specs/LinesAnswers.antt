-- The answer to a log in lines: whether it has a lawful order, or the fault (this project's own).
use Rattle.std.specs.Prelude.{◌≡◌, ℕ, List, Bool, true, false, unwrap_or, Result, Ok, Err}
use Rattle.program_streams.specs.Exits.{status_of as status_at}
use Rattle.program_streams.specs.declared.exit.Exit.{Exit}
use Rattle.program_streams.specs.declared.exit.Exit.TheVariants.{Sound, Unsound, Little}
use Rattle.program_runs.specs.declared.fault.Answer.{Answer}
use Rattle.program_runs.specs.declared.fault.Fault.{Fault}
use Rattle.program_runs.specs.declared.show.Show.{Show}
use Rattle.history_core.specs.declared.history.Op.{Op}
use Rattle.history_thinning.specs.Answers.{IsThinnedAnswer, IsOfKept}
use Rattle.history_core.specs.declared.thinned.LogAnswer.{LogAnswer}
use Rattle.history_core.specs.declared.thinned.LogAnswer.TheVariants.{Lawful, Unlawful}
use Rattle.lines_log.specs.Faults.{IsLinesFault}
use Rattle.lines_log.specs.Logs.{IsLinesLog}
use Rattle.kept_lines.specs.declared.lines_log.LinesLog.{LinesLog}
use Rattle.thinned_search.specs.Limits.{IsCounted}
use Rattle.print_reasons.specs.LogText.{lines_text, shows_little}

-- how a run ends that found a lawful order: if it is strict, by whether the log shows little
abbrev pub lawful_exit : Bool → Bool → Exit
lawful_exit true true = Little
lawful_exit true false = Sound
lawful_exit false little = Sound

abbrev pub exit_of : Bool → LinesLog → LogAnswer → Exit
exit_of strict read (Lawful writes) = lawful_exit strict (shows_little read)
exit_of strict read (Unlawful reason) = Unsound

abbrev pub status_of : Bool → LinesLog → LogAnswer → ℕ
status_of strict read found = status_at (exit_of strict read found)

-- the text of what was found, with its status
abbrev pub printed : Show → List ℕ → LinesLog → ℕ → LogAnswer → Answer
printed show bytes read most found =
    record { text = lines_text show.order bytes read most found; status = status_of show.strict read found }

-- what was found of the whole log that the bytes stand for: a lawful order of it, or that there is none, with a
-- reason, whose operations are kept; and of a log that is unlawful by its limit how many writes can stand
-- before the first refused write
pub record Found (show : Show) (bytes : List ℕ) (answer : Answer) : Type 0 where
  pub log : List (Op ℕ)
  pub read : LinesLog
  pub found : LogAnswer
  pub is : IsLinesLog bytes log read
  pub answered : IsThinnedAnswer (unwrap_or is.head.limit 1) log found
  pub named : IsOfKept read.thinned.places found
  pub most : ℕ
  pub counted : IsCounted (unwrap_or is.head.limit 1) log found most
  pub told : answer ≡ printed show bytes read most found

-- the answer to the bytes of a log in lines, with the writes in order if that is asked for, and strict or not
abbrev pub IsLinesAnswer : Show → List ℕ → Result Answer Fault → Type 0
IsLinesAnswer show bytes (Ok answer) = Found show bytes answer
IsLinesAnswer show bytes (Err f) = IsLinesFault bytes f
