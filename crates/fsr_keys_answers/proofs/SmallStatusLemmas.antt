-- The answer has status 0 or 1, or that of little.
use Rattle.std.proofs.Common.{rules, ℕ, Bool, List, Result, Ok, Err, ap}
use Rattle.program_runs.specs.Answers.{GivesReply, HasAnswerStatus}
use Rattle.program_runs.specs.declared.fault.Answer.{Answer}
use Rattle.program_runs.specs.declared.fault.Fault.{Fault}
use Rattle.fsr_once_answers.proofs.StatusLemmas.{of_answer}
use Rattle.fsr_keys_answers.specs.SmallAnswers.{IsSmallAnswer}

pub status_small : (strict : Bool) (bytes : List ℕ) (r : Result Answer Fault) →
    GivesReply (IsSmallAnswer strict bytes) r → HasAnswerStatus r
status_small strict bytes (Ok a) found = of_answer strict found.read found.found a (ap (λ (b : Answer). b.status) found.told)
status_small strict bytes (Err e) refused = search rules
