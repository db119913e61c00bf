-- The answer to a log of either kind has status 0 or 1, or that of little.
use Rattle.std.proofs.Common.{ℕ, List, Bool, true, false, Result}
use Rattle.program_runs.specs.Answers.{GivesReply, HasAnswerStatus}
use Rattle.program_runs.specs.declared.fault.Answer.{Answer}
use Rattle.program_runs.specs.declared.fault.Fault.{Fault}
use Rattle.program_runs.specs.declared.show.Show.{Show}
use Rattle.fsr_order_input.specs.Kinds.{are_lines}
use Rattle.read_line.specs.Repeats.{has_repeats}
use Rattle.fsr_log_answers.proofs.LogLemmas.{low_log}
use Rattle.fsr_keys_answers.proofs.ByKeysLemmas.{status_by_keys}
use Rattle.fsr_repeats_answers.proofs.ExchangesLemmas.{low_exchanges}
use Rattle.fsr_order_answers.specs.Order.{IsAnswerBy, IsAnswerInLines, IsOrderAnswer}

status_in_lines : (show : Show) (repeats : Bool) (bytes : List ℕ) (r : Result Answer Fault) →
    GivesReply (IsAnswerInLines show repeats bytes) r → HasAnswerStatus r
status_in_lines show true bytes r answered = low_exchanges show.budget bytes r answered
status_in_lines show false bytes r answered = status_by_keys show bytes r answered

status_by : (show : Show) (in_lines : Bool) (bytes : List ℕ) (r : Result Answer Fault) →
    GivesReply (IsAnswerBy show in_lines bytes) r → HasAnswerStatus r
status_by show true bytes r answered = status_in_lines show (has_repeats bytes) bytes r answered
status_by show false bytes r answered = low_log bytes r answered

pub status_order : (show : Show) (bytes : List ℕ) (r : Result Answer Fault) → GivesReply (IsOrderAnswer show bytes) r → HasAnswerStatus r
status_order show bytes r answered = status_by show (are_lines bytes) bytes r answered
