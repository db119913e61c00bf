-- The verdict on each key is true of its log, and the first that is unlawful is told.
use Rattle.std.proofs.Common.{rules, ◌≡◌, ◌∙◌, ◌+◌, ◌<◌, ◌≤◌, ◌⊎◌, ◌++◌, ◌∷◌, [], ℕ, List, Bool, true, Option, Some, Result, Ok, Err}
use Rattle.std.proofs.Common.{zero, suc, ap, arith, inl, inr, length, length-append, refl, slice_get, subst, sym}
use Rattle.std.specs.Prelude.{unwrap_or}
use Rattle.std.proofs.lemmas.Option.{same_Some, slice_get_within}
use Rattle.history_core.proofs.Places.{get_pushed_cases}
use Rattle.history_core.specs.declared.history.Op.{Op}
use Rattle.history_core.specs.declared.reason.Reason.{Reason}
use Rattle.history_core.specs.declared.thinned.LogAnswer.{LogAnswer}
use Rattle.history_core.specs.declared.thinned.LogAnswer.TheVariants as told
use Rattle.history_thinning.specs.Answers.{IsThinnedAnswer, IsOfKept}
use Rattle.history_thinning.specs.Thinnings.{IsThinnedLog}
use Rattle.program_runs.specs.Answers.{GivesReply, HasAnswerStatus}
use Rattle.program_runs.specs.declared.fault.Answer.{Answer}
use Rattle.program_runs.specs.declared.fault.Fault.{Fault}
use Rattle.program_runs.specs.declared.show.Show.{Show}
use Rattle.keys_log.specs.Keys.{IsKeysLog}
use Rattle.kept_lines.specs.declared.keys_log.KeyLog.{KeyLog}
use Rattle.kept_lines.specs.declared.keys_log.KeysLog.{KeysLog}
use Rattle.fsr_keys_answers.specs.KeysAnswers.{HaveOrders, IsFirstUnlawful, IsKeyJudged, IsKeysAnswer, keys_of, keys_status}
use Rattle.print_keys.specs.KeysText.{keys_show_little, totals}
use Rattle.thinned_search.specs.Limits.{IsCounted, is_lawful}
use Rattle.print_keys.specs.declared.keys_verdict.KeysVerdict.{KeysVerdict}
use Rattle.print_keys.specs.declared.keys_verdict.KeysVerdict.TheVariants.{Lawful, Unlawful}
use Rattle.fsr_once_answers.proofs.StatusLemmas.{of_lawful}

-- what a search finds of a key's log
abbrev pub IsFoundOf : KeyLog → LogAnswer → Type 0
IsFoundOf one found = (limit : ℕ) (ops : List (Op ℕ)) → IsThinnedLog limit ops one.log.thinned →
    IsThinnedAnswer limit ops found × IsOfKept one.log.thinned.places found

abbrev judged : {bytes : List ℕ} {read : KeysLog} (is : IsKeysLog bytes read) (i : ℕ) (key : Option (List ℕ)) (one : KeyLog)
    (found : LogAnswer) → slice_get (keys_of is) i ≡ Some key → slice_get read.logs.items i ≡ Some one → IsFoundOf one found
    → IsKeyJudged is.head is.lines key one found
judged is i key one found at_key at_log finds =
    let own = is.each i key one at_key at_log in
    let says = finds (unwrap_or is.head.limit 1) own.0 own.1.thinned in
    record { log = own.0; is = own.1; answered = says.0; named = says.1 }

-- what isn't unlawful is lawful
pub lawful_else : (found : LogAnswer) → ((reason : Reason) → found ≡ told.Unlawful reason → ⊥) → is_lawful found ≡ true
lawful_else (told.Lawful writes) other = refl
lawful_else (told.Unlawful reason) other = absurd (other reason refl)

-- one key more has a lawful order
pub orders_more : {bytes : List ℕ} {read : KeysLog} (is : IsKeysLog bytes read) (n : ℕ) (orders : List LogAnswer) (one : KeyLog)
    (found : LogAnswer) → HaveOrders is n orders → slice_get read.logs.items n ≡ Some one → IsFoundOf one found → is_lawful found ≡ true
    → HaveOrders is (n + 1) (orders ++ found ∷ [])
orders_more {bytes} {read} is n orders one found have at finds lawful = record {
  long = omega (arith, have.long, length-append orders (found ∷ []));
  each = λ i key k f at_key at_log at_f. by_place i key k f at_key at_log (get_pushed_cases orders found i f at_f);
}
  where
    by_place : (i : ℕ) (key : Option (List ℕ)) (k : KeyLog) (f : LogAnswer) → slice_get (keys_of is) i ≡ Some key
        → slice_get read.logs.items i ≡ Some k → (slice_get orders i ≡ Some f) ⊎ ((i ≡ length orders) × (found ≡ f))
        → IsKeyJudged is.head is.lines key k f × (is_lawful f ≡ true)
    by_place i key k f at_key at_log (inl old) = have.each i key k f at_key at_log old
    by_place i key k f at_key at_log (inr new) =
        let same : one ≡ k = same_Some one k (sym at ∙ ap (slice_get read.logs.items) (sym have.long ∙ sym new.0) ∙ at_log) in
        let finds_k : IsFoundOf k f = subst (λ z. IsFoundOf k z) new.1 (subst (λ z. IsFoundOf z found) same finds) in
        (judged is i key k f at_key at_log finds_k, ap is_lawful (sym new.1) ∙ lawful)

there : {X : Type 0} (rs : List X) (n : ℕ) → n < length rs → (one : X) × (slice_get rs n ≡ Some one)
there [] n within = absurd (omega (arith, within))
there (r ∷ rs) zero within = (r, refl)
there (r ∷ rs) (suc n) within = there rs n (omega (arith, within))

-- the next key has none
pub first_unlawful : {bytes : List ℕ} {read : KeysLog} (is : IsKeysLog bytes read) (n number : ℕ) (orders : List LogAnswer) (one : KeyLog)
    (found : LogAnswer) (reason : Reason) (most : ℕ) → HaveOrders is n orders → number ≡ length orders
    → slice_get read.logs.items n ≡ Some one → IsFoundOf one found → found ≡ told.Unlawful reason
    → ((limit : ℕ) (log : List (Op ℕ)) → IsThinnedLog limit log one.log.thinned →
    IsThinnedAnswer limit log (told.Unlawful reason) → IsCounted limit log (told.Unlawful reason) most)
    → IsFirstUnlawful is number reason most
first_unlawful {bytes} {read} is n number orders one found reason most have long at finds unlawful counts =
    let numbered : n ≡ number = sym have.long ∙ sym long in
    let at_number : slice_get read.logs.items number ≡ Some one = ap (slice_get read.logs.items) (sym numbered) ∙ at in
    let within : number < length read.logs.items = slice_get_within read.logs.items number one at_number in
    let key = there (keys_of is) number (omega (arith, within, is.long)) in
    let own = is.each number key.0 one key.1 at_number in
    let finds_reason : IsFoundOf one (told.Unlawful reason) = subst (λ z. IsFoundOf one z) unlawful finds in
    let says = finds_reason (unwrap_or is.head.limit 1) own.0 own.1.thinned in
    record {
      before = orders;
      lawful = subst (λ (m : ℕ). HaveOrders is m orders) numbered have;
      key = key.0;
      one = one;
      has_key = key.1;
      has_log = at_number;
      judged = judged is number key.0 one (told.Unlawful reason) key.1 at_number finds_reason;
      counted = counts (unwrap_or is.head.limit 1) own.0 own.1.thinned says.0;
    }

-- the answer has status 0 or 1, or that of little
low_keys : (strict : Bool) (read : KeysLog) (verdict : KeysVerdict) →
    (keys_status strict read verdict ≤ 1) ⊎ (keys_status strict read verdict ≡ 8)
low_keys strict read (Lawful orders) = of_lawful strict (keys_show_little (totals read.logs.items))
low_keys strict read (Unlawful number reason most) = inl (omega arith)

pub status_keys : (show : Show) (bytes : List ℕ) (r : Result Answer Fault) → GivesReply (IsKeysAnswer show bytes) r → HasAnswerStatus r
status_keys show bytes (Ok a) given =
    let P : ℕ → Type 0 = λ status. (status ≤ 1) ⊎ (status ≡ 8) in
    subst P (sym (ap (λ (b : Answer). b.status) given.told)) (low_keys show.strict given.read given.verdict)
status_keys show bytes (Err e) refused = search rules
