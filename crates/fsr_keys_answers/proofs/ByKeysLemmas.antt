-- The answer by keys has status 0 or 1, or that of little.
use Rattle.std.proofs.Common.{rules, ◌≡◌, ◌∙◌, ℕ, List, Bool, true, false, Result, Ok, Err, ap, inl, inr, sym}
use Rattle.program_runs.specs.Answers.{GivesReply, HasAnswerStatus}
use Rattle.program_runs.specs.declared.fault.Answer.{Answer}
use Rattle.program_runs.specs.declared.fault.Fault.{Fault}
use Rattle.program_runs.specs.declared.show.Show.{Show}
use Rattle.fsr_keys_answers.proofs.KeysLemmas.{status_keys}
use Rattle.fsr_keys_answers.proofs.SmallStatusLemmas.{status_small}
use Rattle.fsr_once_answers.proofs.StatusLemmas.{status_lines}
use Rattle.fsr_keys_answers.specs.ByKeys.{IsAnswerByKeys, IsAnswerIfSmall, is_other_key}
use Rattle.fsr_keys_answers.specs.KeysAnswers.{IsKeysAnswer}

status_if_small : (show : Show) (small : Bool) (bytes : List ℕ) (r : Result Answer Fault) →
    GivesReply (IsAnswerIfSmall show small bytes) r → HasAnswerStatus r
status_if_small show true bytes r answered = status_small show.strict bytes r answered
status_if_small show false bytes r answered = status_lines show bytes r answered

pub status_by_keys : (show : Show) (bytes : List ℕ) (r : Result Answer Fault) →
    GivesReply (IsAnswerByKeys show bytes) r → HasAnswerStatus r
status_by_keys show bytes (Ok a) (inl one) = status_if_small show show.small bytes (Ok a) one.0
status_by_keys show bytes (Ok a) (inr several) = status_keys show bytes (Ok a) several.3
status_by_keys show bytes (Err e) refused = search rules

-- the answer as to a log of one key
pub of_one_key : (show : Show) (bytes : List ℕ) (r : Result Answer Fault) → GivesReply (IsAnswerIfSmall show show.small bytes) r
    → is_other_key r ≡ false → GivesReply (IsAnswerByKeys show bytes) r
of_one_key show bytes (Ok a) answered same = inl (answered, same)
of_one_key show bytes (Err e) answered same = λ other. inl (answered other, same)

refused_there : (show : Show) (bytes : List ℕ) (r : Result Answer Fault) → GivesReply (IsAnswerIfSmall show show.small bytes) r
    → is_other_key r ≡ true → IsAnswerIfSmall show show.small bytes r
refused_there show bytes (Ok a) answered other = answered
refused_there show bytes (Err e) answered other =
    answered (λ none. let clash : true ≡ false = sym other ∙ ap (λ f. is_other_key (Err f)) none in cc)

-- the answer by keys
pub of_keys : (show : Show) (bytes : List ℕ) (refused r : Result Answer Fault) → GivesReply (IsAnswerIfSmall show show.small bytes) refused
    → is_other_key refused ≡ true → GivesReply (IsKeysAnswer show bytes) r → GivesReply (IsAnswerByKeys show bytes) r
of_keys show bytes refused (Ok a) answered other given =
    inr (refused, refused_there show bytes refused answered other, other, given)
of_keys show bytes refused (Err e) answered other given =
    λ there. inr (refused, refused_there show bytes refused answered other, other, given there)
