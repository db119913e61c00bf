-- The answer to a log in lines has status 0 or 1, or that of little.
use Rattle.std.proofs.Common.{rules, ◌≡◌, ◌≤◌, ◌⊎◌, inl, inr, ℕ, List, Bool, true, false, Result, Ok, Err, refl, ap, sym, subst, arith}
use Rattle.kept_lines.specs.declared.lines_log.LinesLog.{LinesLog}
use Rattle.program_streams.specs.Exits.{status_of as status_at}
use Rattle.program_runs.specs.Answers.{GivesReply, HasAnswerStatus}
use Rattle.program_runs.specs.declared.fault.Answer.{Answer}
use Rattle.program_runs.specs.declared.fault.Fault.{Fault}
use Rattle.program_runs.specs.declared.show.Show.{Show}
use Rattle.history_core.specs.declared.thinned.LogAnswer.{LogAnswer}
use Rattle.history_core.specs.declared.thinned.LogAnswer.TheVariants.{Lawful, Unlawful}
use Rattle.fsr_once_answers.specs.LinesAnswers.{IsLinesAnswer, lawful_exit, status_of}
use Rattle.print_reasons.specs.LogText.{shows_little}

abbrev IsOfAnswer : ℕ → Type 0
IsOfAnswer status = (status ≤ 1) ⊎ (status ≡ 8)

pub of_lawful : (strict little : Bool) → IsOfAnswer (status_at (lawful_exit strict little))
of_lawful true true = inr refl
of_lawful true false = inl (omega arith)
of_lawful false little = inl (omega arith)

of_found : (strict : Bool) (read : LinesLog) (found : LogAnswer) → IsOfAnswer (status_of strict read found)
of_found strict read (Lawful writes) = of_lawful strict (shows_little read)
of_found strict read (Unlawful reason) = inl (omega arith)

-- an answer with the status of what was found
pub of_answer : (strict : Bool) (read : LinesLog) (found : LogAnswer) (a : Answer) → a.status ≡ status_of strict read found
    → (a.status ≤ 1) ⊎ (a.status ≡ 8)
of_answer strict read found a same = subst IsOfAnswer (sym same) (of_found strict read found)

pub status_lines : (show : Show) (bytes : List ℕ) (r : Result Answer Fault) → GivesReply (IsLinesAnswer show bytes) r → HasAnswerStatus r
status_lines show bytes (Ok a) found = of_answer show.strict found.read found.found a (ap (λ (b : Answer). b.status) found.told)
status_lines show bytes (Err e) refused = search rules
