-- The answer to a log in lines whose records don't repeat: as to one of one key, or by keys (this project's own).
use Rattle.std.specs.Prelude.{◌≡◌, ◌⊎◌, ℕ, List, Bool, true, false, Result, Ok, Err}
use Rattle.program_runs.specs.declared.fault.Answer.{Answer}
use Rattle.program_runs.specs.declared.fault.Fault.{Fault}
use Rattle.program_runs.specs.declared.fault.Fault.TheVariants as fault
use Rattle.program_runs.specs.declared.fault.LinesFault.TheVariants.{Refused}
use Rattle.program_runs.specs.declared.show.Show.{Show}
use Rattle.read_document.specs.declared.key.Key.TheVariants as key
use Rattle.read_document.specs.declared.refusal.DocError.TheVariants.{Law}
use Rattle.fsr_keys_answers.specs.KeysAnswers.{IsKeysAnswer}
use Rattle.fsr_once_answers.specs.LinesAnswers.{IsLinesAnswer}
use Rattle.fsr_keys_answers.specs.SmallAnswers.{IsSmallAnswer}

-- the answer to a log in lines: a small log if that is asked for, else the verdict, with the
-- writes in order if those are
abbrev pub IsAnswerIfSmall : Show → Bool → List ℕ → Result Answer Fault → Type 0
IsAnswerIfSmall show true bytes reply = IsSmallAnswer show.strict bytes reply
IsAnswerIfSmall show false bytes reply = IsLinesAnswer show bytes reply

-- whether a line was refused since its key isn't that of the first operation
abbrev pub is_other_key : Result Answer Fault → Bool
is_other_key (Err (fault.Lines (Refused line (Law key.Key)))) = true
is_other_key (Err why) = false
is_other_key (Ok answer) = false

-- The answer to a log in lines as to one of one key, unless a line is refused there for its key; then the answer by
-- keys.
abbrev pub IsAnswerByKeys : Show → List ℕ → Result Answer Fault → Type 0
IsAnswerByKeys show bytes reply =
    (IsAnswerIfSmall show show.small bytes reply × (is_other_key reply ≡ false))
    ⊎ ((refused : Result Answer Fault) × IsAnswerIfSmall show show.small bytes refused × (is_other_key refused ≡ true)
    × IsKeysAnswer show bytes reply)
