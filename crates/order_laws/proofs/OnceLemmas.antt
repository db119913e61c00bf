-- The answer of a smaller program is an answer of the command.
use Rattle.std.proofs.Common.{◌≡◌, ◌∙◌, ℕ, List, Bool, true, false, Result, Err, ap, inl, inr, refl, subst, sym}
use Rattle.program_runs.specs.declared.fault.Answer.{Answer}
use Rattle.program_runs.specs.declared.fault.Fault.{Fault}
use Rattle.program_runs.specs.declared.show.Show.{Show}
use Rattle.read_document.specs.Document.{value_of}
use Rattle.fsr_order_input.specs.Kinds.{are_lines}
use Rattle.read_document.specs.declared.refusal.DocError.{DocError}
use Rattle.read_document.specs.declared.refusal.DocError.TheVariants.{Long, NotJson}
use Rattle.read_line.specs.Lines.{head_of}
use Rattle.read_line.specs.Repeats.{has_repeats}
use Rattle.read_log.specs.Log.{log_of}
use Rattle.fsr_log_answers.specs.Logs.{AnswersRead, fault_of, IsLogAnswer}
use Rattle.fsr_keys_answers.specs.ByKeys.{IsAnswerByKeys, IsAnswerIfSmall, is_other_key}
use Rattle.fsr_once_answers.specs.LinesAnswers.{IsLinesAnswer}
use Rattle.fsr_once_answers.specs.Once.{fault_of as once_fault_of, IsAnswerOnce, IsOnceBy, IsOnceInLines, IsOtherDocument, other_fault}
use Rattle.fsr_order_answers.specs.Order.{IsAnswerBy, IsAnswerInLines, IsOrderAnswer}
use Rattle.order_laws.specs.Parts.{IsNoDocument, IsOnceOrNone}

-- a log in lines whose records don't repeat, which is answered as one of one key
in_lines : (show : Show) (bytes : List ℕ) (reply : Result Answer Fault) → has_repeats bytes ≡ false → show.small ≡ false
    → is_other_key reply ≡ false → IsOnceBy show true bytes reply → IsAnswerBy show true bytes reply
in_lines show bytes reply once whole one answered =
    let of_lines : IsLinesAnswer show bytes reply = subst (λ (b : Bool). IsOnceInLines show b bytes reply) once answered in
    let by_small : IsAnswerIfSmall show show.small bytes reply =
    subst (λ (b : Bool). IsAnswerIfSmall show b bytes reply) (sym whole) of_lines in
    let by_keys : IsAnswerByKeys show bytes reply = inl (by_small, one) in
    subst (λ (b : Bool). IsAnswerInLines show b bytes reply) (sym once) by_keys

head_refused : (bytes : List ℕ) (why : DocError) → value_of bytes ≡ Err why → head_of bytes ≡ Err why
unfolding head_of
head_refused bytes why refused = rw refused refl

log_refused : (bytes : List ℕ) (why : DocError) → value_of bytes ≡ Err why → log_of bytes ≡ Err why
unfolding log_of
log_refused bytes why refused = rw refused refl

-- bytes that have no value, which each program tells alike
refused_alike : (bytes : List ℕ) (reply : Result Answer Fault) (why : DocError) → value_of bytes ≡ Err why
    → other_fault why ≡ fault_of why → IsOtherDocument bytes reply → IsLogAnswer bytes reply
refused_alike bytes reply why refused same answered =
    let told : reply ≡ Err (fault_of why) =
    answered ∙ ap (λ h. Err (once_fault_of h)) (head_refused bytes why refused) ∙ ap (λ (f : Fault). Err f) same in
    subst (λ d. AnswersRead d reply) (sym (log_refused bytes why refused)) told

no_document : (bytes : List ℕ) (reply : Result Answer Fault) → IsNoDocument bytes → IsOtherDocument bytes reply → IsLogAnswer bytes reply
no_document bytes reply (other, inl refused) answered = refused_alike bytes reply NotJson refused refl answered
no_document bytes reply (other, inr refused) answered = refused_alike bytes reply Long refused refl answered

pub document_as_any : (show : Show) (bytes : List ℕ) (reply : Result Answer Fault) → are_lines bytes ≡ false → IsLogAnswer bytes reply →
    IsOrderAnswer show bytes reply
document_as_any show bytes reply other answered = subst (λ (b : Bool). IsAnswerBy show b bytes reply) (sym other) answered

pub once_as_any : (show : Show) (bytes : List ℕ) (reply : Result Answer Fault) → IsOnceOrNone bytes → show.small ≡ false
    → is_other_key reply ≡ false → IsAnswerOnce show bytes reply → IsOrderAnswer show bytes reply
once_as_any show bytes reply (inl once) whole one answered =
    subst (λ (b : Bool). IsAnswerBy show b bytes reply) (sym once.0)
    (in_lines show bytes reply once.1 whole one (subst (λ (b : Bool). IsOnceBy show b bytes reply) once.0 answered))
once_as_any show bytes reply (inr none) whole one answered =
    document_as_any show bytes reply none.0
    (no_document bytes reply none (subst (λ (b : Bool). IsOnceBy show b bytes reply) none.0 answered))
