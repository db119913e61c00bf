-- The answer to a log, in lines or as a document of kind `log` (this project's own).
use Rattle.std.specs.Prelude.{ℕ, List, Bool, true, false, Result}
use Rattle.program_runs.specs.declared.fault.Answer.{Answer}
use Rattle.program_runs.specs.declared.fault.Fault.{Fault}
use Rattle.program_runs.specs.declared.show.Show.{Show}
use Rattle.fsr_order_input.specs.Kinds.{are_lines}
use Rattle.read_line.specs.Repeats.{has_repeats}
use Rattle.fsr_keys_answers.specs.ByKeys.{IsAnswerByKeys}
use Rattle.fsr_log_answers.specs.Logs.{IsLogAnswer}
use Rattle.fsr_repeats_answers.specs.Exchanges.{IsExchangesAnswer}

-- the answer to a log in lines by whether its records repeat: then there is a budget, and no choice of what is printed
abbrev pub IsAnswerInLines : Show → Bool → List ℕ → Result Answer Fault → Type 0
IsAnswerInLines show true bytes reply = IsExchangesAnswer show.budget bytes reply
IsAnswerInLines show false bytes reply = IsAnswerByKeys show bytes reply

-- the answer by the kind: whether the document is a log in lines
abbrev pub IsAnswerBy : Show → Bool → List ℕ → Result Answer Fault → Type 0
IsAnswerBy show true bytes reply = IsAnswerInLines show (has_repeats bytes) bytes reply
IsAnswerBy show false bytes reply = IsLogAnswer bytes reply

-- the answer of the command `order` to the bytes of a document
abbrev pub IsOrderAnswer : Show → List ℕ → Result Answer Fault → Type 0
IsOrderAnswer show bytes reply = IsAnswerBy show (are_lines bytes) bytes reply
