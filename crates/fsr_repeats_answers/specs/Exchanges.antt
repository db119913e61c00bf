-- The answer to a log whose records repeat: whether it has a lawful order, or what shows that it has none; that there
-- are more configurations than the sweep may hold; or the fault (this project's own).
use Rattle.std.specs.Prelude.{◌≡◌, ◌⊎◌, ℕ, List, Result, Ok, Err}
use Rattle.exchanges_log.specs.ExchangeFaults.{IsExchangesFault}
use Rattle.exchanges_log.specs.ExchangeLogs.{IsExchangesLog}
use Rattle.exchanges_log.specs.declared.exchanges_log.ExchangesLog.{ExchangesLog}
use Rattle.program_runs.specs.declared.fault.Answer.{Answer}
use Rattle.program_runs.specs.declared.fault.Fault.{Fault}
use Rattle.program_runs.specs.declared.fault.Fault.TheVariants.{Undecided}
use Rattle.text_lines.specs.Places.{line_at}
use Rattle.fsr_repeats_answers.specs.declared.judgement.Judgement.{Judgement}
use Rattle.fsr_repeats_answers.specs.declared.judgement.Judgement.TheVariants.{Lawful, Lost, Limited, TooMany}
use Rattle.fsr_repeats_answers.specs.ExchangesText.{lawful_text, limited_text, unlawful_text}
use Rattle.fsr_repeats_answers.specs.Judgements.{IsJudgement}

-- the lines of a verdict, with the status, of a lost log with what shows that it is; or that there is no verdict
abbrev pub printed : List ℕ → ExchangesLog → Judgement → Result Answer Fault
printed bytes log Lawful = Ok (record { text = lawful_text log; status = 0 })
printed bytes log (Lost place evidence) =
    Ok (record { text = unlawful_text bytes log place evidence; status = 1 })
printed bytes log (Limited place limit) = Ok (record { text = limited_text bytes log place limit; status = 1 })
printed bytes log (TooMany place) = Err (Undecided (line_at place))

-- what is known of the log that the bytes stand for, of which the sweep may hold so many configurations, is told
pub record IsJudged (budget : ℕ) (bytes : List ℕ) (reply : Result Answer Fault) : Type 0 where
  pub log : ExchangesLog
  pub judgement : Judgement
  pub is : IsExchangesLog bytes log
  pub known : IsJudgement log.limit log.ops.items budget judgement
  pub told : reply ≡ printed bytes log judgement

-- the answer to the bytes of a log whose records repeat, by how many configurations the sweep may hold
abbrev pub IsExchangesAnswer : ℕ → List ℕ → Result Answer Fault → Type 0
IsExchangesAnswer budget bytes (Ok answer) = IsJudged budget bytes (Ok answer)
IsExchangesAnswer budget bytes (Err f) = IsJudged budget bytes (Err f) ⊎ IsExchangesFault bytes f
