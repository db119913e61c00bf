-- The answer to a history with an order of it, from what the calls of `check` gave, and that its status is 0 or 1.
use Rattle.std.proofs.Common.{rules, arith, ◌≡◌, ◌≤◌, ℕ, List, Result, Ok, Err, inl, ap, sym, subst}
use Rattle.program_streams.specs.Exits.{status_of}
use Rattle.history_core.specs.Orders.{IsVerdict}
use Rattle.history_core.specs.declared.history.Verdict.{Verdict}
use Rattle.history_core.specs.declared.history.Verdict.TheVariants.{Lawful, Listing, Precedence, Reading, Limit}
use Rattle.read_history.specs.Check.{check_of}
use Rattle.read_history.specs.declared.document.CheckDocument.{CheckDocument}
use Rattle.read_document.specs.declared.refusal.DocError.{DocError}
use Rattle.program_runs.specs.Answers.{AnswersReading, GivesReply, HasAnswerStatus}
use Rattle.program_runs.specs.declared.fault.Answer.{Answer}
use Rattle.program_runs.specs.declared.fault.Fault.{Fault}
use Rattle.history_core.proofs.Bands.{HaveSameFields, fields_are_equality}
use Rattle.fsr_check_answers.specs.Check.{AnswersCheck, IsCheckAnswer, exit_of, printed}

-- the verdict was told
pub answers_check : (document : CheckDocument) (given : List ℕ) (v : Verdict) (a : Answer) → given ≡ document.order
    → IsVerdict HaveSameFields document.history.opening document.history.terms document.history.ops given v → a ≡ printed v
    → AnswersCheck document (Ok a)
answers_check document given v a same is_verdict is_printed =
    let ops = document.history.ops in
    let on_order = subst (λ o. IsVerdict HaveSameFields document.history.opening document.history.terms ops o v) same is_verdict in
    let by_value = subst (λ Same. IsVerdict Same document.history.opening document.history.terms ops document.order v)
    fields_are_equality on_order in
    (v, by_value, is_printed)

verdict_is_low : (v : Verdict) → status_of (exit_of v) ≤ 1
verdict_is_low Lawful = omega arith
verdict_is_low Listing = omega arith
verdict_is_low Precedence = omega arith
verdict_is_low Reading = omega arith
verdict_is_low Limit = omega arith

low_verdict : (v : Verdict) (a : Answer) → a ≡ printed v → a.status ≤ 1
low_verdict v a is_printed = subst (λ (s : ℕ). s ≤ 1) (sym (ap (λ (b : Answer). b.status) is_printed)) (verdict_is_low v)

low_reading : (d : Result CheckDocument DocError) (a : Answer) → AnswersReading AnswersCheck d (Ok a) → a.status ≤ 1
low_reading (Ok document) a answered = low_verdict answered.0 a answered.2
low_reading (Err refusal) a answered = absurd (cc)

pub low_check : (bytes : List ℕ) (r : Result Answer Fault) → GivesReply (IsCheckAnswer bytes) r → HasAnswerStatus r
low_check bytes (Ok a) answered = inl (low_reading (check_of bytes) a answered)
low_check bytes (Err e) refused = search rules
