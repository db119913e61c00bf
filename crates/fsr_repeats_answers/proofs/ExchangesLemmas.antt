-- The answer to a log whose records repeat, and that it has status 0 or 1.
use Rattle.std.proofs.Common.{rules, arith, ◌≡◌, ℕ, List, Result, Ok, Err, inl, ap, sym, ◌∙◌, subst}
use Rattle.exchanges_log.specs.ExchangeLogs.{IsExchangesLog}
use Rattle.exchanges_log.specs.declared.exchanges_log.ExchangesLog.{ExchangesLog}
use Rattle.program_runs.specs.Answers.{GivesReply, HasAnswerStatus}
use Rattle.program_runs.specs.declared.fault.Answer.{Answer}
use Rattle.program_runs.specs.declared.fault.Fault.{Fault}
use Rattle.fsr_repeats_answers.specs.declared.judgement.Judgement.{Judgement}
use Rattle.fsr_repeats_answers.specs.declared.judgement.Judgement.TheVariants.{Lawful, Lost, Limited, TooMany}
use Rattle.fsr_repeats_answers.specs.Exchanges.{IsExchangesAnswer, printed}
use Rattle.fsr_repeats_answers.specs.ExchangesText.{limited_text}
use Rattle.fsr_repeats_answers.specs.Judgements.{IsJudgement}

-- what is printed of a judgement is the answer
pub judged : (budget : ℕ) (bytes : List ℕ) (log : ExchangesLog) (judgement : Judgement) → IsExchangesLog bytes log →
    IsJudgement log.limit log.ops.items budget judgement →
    (r : Result Answer Fault) → r ≡ printed bytes log judgement → GivesReply (IsExchangesAnswer budget bytes) r
judged budget bytes log judgement is known (Ok a) told =
    record { log = log; judgement = judgement; is = is; known = known; told = told }
judged budget bytes log judgement is known (Err f) told =
    λ other. inl (record { log = log; judgement = judgement; is = is; known = known; told = told })

-- that the log is lost by its limit
pub limited_told : (bytes : List ℕ) (log : ExchangesLog) (judgement : Judgement) (place limit : ℕ) (text : List ℕ) (a : Answer) →
    judgement ≡ Limited place limit → text ≡ limited_text bytes log place limit → a ≡ record { text = text; status = 1 } →
    Ok a ≡ printed bytes log judgement
limited_told bytes log judgement place limit text a is told made =
    let answered : Answer → Result Answer Fault = λ z. Ok z in
    let unlawful : List ℕ → Result Answer Fault = λ t. Ok (record { text = t; status = 1 }) in
    let P : Judgement → Type 0 = λ j. answered a ≡ printed bytes log j in
    subst P (sym is) (ap answered made ∙ ap unlawful told)

low_judgement : (bytes : List ℕ) (log : ExchangesLog) (judgement : Judgement) → HasAnswerStatus (printed bytes log judgement)
low_judgement bytes log Lawful = inl (omega arith)
low_judgement bytes log (Lost place evidence) = inl (omega arith)
low_judgement bytes log (Limited place limit) = inl (omega arith)
low_judgement bytes log (TooMany place) = tt

pub low_printed : (bytes : List ℕ) (log : ExchangesLog) (judgement : Judgement) (r : Result Answer Fault) →
    r ≡ printed bytes log judgement → HasAnswerStatus r
low_printed bytes log judgement r told =
    let P : Result Answer Fault → Type 0 = λ z. HasAnswerStatus z in subst P (sym told) (low_judgement bytes log judgement)

pub low_exchanges : (budget : ℕ) (bytes : List ℕ) (r : Result Answer Fault) →
    GivesReply (IsExchangesAnswer budget bytes) r → HasAnswerStatus r
low_exchanges budget bytes (Ok a) answered = low_printed bytes answered.log answered.judgement (Ok a) answered.told
low_exchanges budget bytes (Err e) refused = search rules
