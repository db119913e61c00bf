-- The answer to a log has status 0 or 1.
use Rattle.std.proofs.Common.{rules, arith, ◌≡◌, ◌≤◌, ℕ, List, Result, Ok, Err, inl, ap, sym, subst}
use Rattle.program_runs.specs.Answers.{GivesReply, HasAnswerStatus}
use Rattle.program_runs.specs.declared.fault.Answer.{Answer}
use Rattle.program_runs.specs.declared.fault.Fault.{Fault}
use Rattle.history_core.specs.declared.band.Band.{Band}
use Rattle.history_core.specs.declared.history.History.{History}
use Rattle.read_document.specs.declared.refusal.DocError.{DocError}
use Rattle.read_log.specs.Log.{log_of}
use Rattle.history_core.specs.declared.reason.Search.{Search}
use Rattle.history_core.specs.declared.reason.Search.TheVariants.{Order, Unlawful}
use Rattle.fsr_log_answers.specs.Logs.{AnswersRead, IsLogAnswer, printed, status_of}

search_is_low : (search : Search) → status_of search ≤ 1
search_is_low (Order order) = omega arith
search_is_low (Unlawful reason) = omega arith

low_search : (search : Search) (a : Answer) → a ≡ printed search → a.status ≤ 1
low_search search a is_printed = subst (λ (s : ℕ). s ≤ 1) (sym (ap (λ (b : Answer). b.status) is_printed)) (search_is_low search)

low_read : (d : Result (History Band) DocError) (a : Answer) → AnswersRead d (Ok a) → a.status ≤ 1
low_read (Ok log) a answered = low_search answered.0 a answered.2
low_read (Err refusal) a answered = absurd (cc)

pub low_log : (bytes : List ℕ) (r : Result Answer Fault) → GivesReply (IsLogAnswer bytes) r → HasAnswerStatus r
low_log bytes (Ok a) answered = inl (low_read (log_of bytes) a answered)
low_log bytes (Err e) refused = search rules
