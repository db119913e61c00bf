-- The answer to a log whose operations have several keys, each of them a register of its own that holds the opening at
-- first: whether each has a lawful order, or the first that has none, by its first line; or the fault (this project's
-- own).
use Rattle.std.specs.Prelude.{◌≡◌, ℕ, List, Bool, true, false, length, slice_get, unwrap_or, Option, Some, Result, Ok}
use Rattle.std.specs.Prelude.{Err}
use Rattle.program_streams.specs.Exits.{status_of as status_at}
use Rattle.program_streams.specs.declared.exit.Exit.{Exit}
use Rattle.program_streams.specs.declared.exit.Exit.TheVariants.{Unsound}
use Rattle.program_runs.specs.declared.fault.Answer.{Answer}
use Rattle.program_runs.specs.declared.fault.Fault.{Fault}
use Rattle.program_runs.specs.declared.show.Show.{Show}
use Rattle.history_core.specs.declared.history.Op.{Op}
use Rattle.history_core.specs.declared.reason.Reason.{Reason}
use Rattle.history_core.specs.declared.thinned.LogAnswer.{LogAnswer}
use Rattle.history_core.specs.declared.thinned.LogAnswer.TheVariants.{Unlawful as no_order}
use Rattle.history_thinning.specs.Answers.{IsThinnedAnswer, IsOfKept}
use Rattle.read_line.specs.Lines.{Head}
use Rattle.keys_log.specs.KeyFaults.{IsKeysFault}
use Rattle.keys_log.specs.Keys.{IsKeyLog, IsKeysLog, keys_in}
use Rattle.lines_log.specs.Logs.{first_key}
use Rattle.kept_lines.specs.declared.keys_log.KeyLog.{KeyLog}
use Rattle.kept_lines.specs.declared.keys_log.KeysLog.{KeysLog}
use Rattle.thinned_search.specs.Limits.{IsCounted, is_lawful}
use Rattle.fsr_once_answers.specs.LinesAnswers.{lawful_exit}
use Rattle.fsr_keys_answers.specs.SmallKeys.{small_keys}
use Rattle.print_keys.specs.KeysText.{keys_show_little, keys_text, totals}
use Rattle.print_keys.specs.declared.keys_verdict.KeysVerdict.{KeysVerdict}
use Rattle.print_keys.specs.declared.keys_verdict.KeysVerdict.TheVariants.{Lawful, Unlawful}

-- what was found of the operations of a key: a lawful order of them, or that there is none, with a reason, whose
-- operations are kept
pub record IsKeyJudged (head : Head) (lines : List (List ℕ)) (key : Option (List ℕ)) (one : KeyLog)
    (found : LogAnswer) : Type 0 where
  pub log : List (Op ℕ)
  pub is : IsKeyLog head lines key log one
  pub answered : IsThinnedAnswer (unwrap_or head.limit 1) log found
  pub named : IsOfKept one.log.thinned.places found

-- the keys of a log, by their first lines
abbrev pub keys_of : {bytes : List ℕ} {read : KeysLog} → IsKeysLog bytes read → List (Option (List ℕ))
keys_of is = keys_in (first_key is.body) is.lines

-- each of the first n keys has a lawful order
pub record HaveOrders {bytes : List ℕ} {read : KeysLog} (is : IsKeysLog bytes read) (n : ℕ)
    (orders : List LogAnswer) : Type 0 where
  pub long : length orders ≡ n
  pub each : (i : ℕ) (key : Option (List ℕ)) (one : KeyLog) (found : LogAnswer) → slice_get (keys_of is) i ≡ Some key →
      slice_get read.logs.items i ≡ Some one → slice_get orders i ≡ Some found →
      IsKeyJudged is.head is.lines key one found × (is_lawful found ≡ true)

-- the key with this number has no lawful order, for a reason, and each before it has one; and if it is unlawful by its
-- limit, so many writes can stand before its first refused write
pub record IsFirstUnlawful {bytes : List ℕ} {read : KeysLog} (is : IsKeysLog bytes read) (number : ℕ)
    (reason : Reason) (most : ℕ) : Type 0 where
  pub before : List LogAnswer
  pub lawful : HaveOrders is number before
  pub key : Option (List ℕ)
  pub one : KeyLog
  pub has_key : slice_get (keys_of is) number ≡ Some key
  pub has_log : slice_get read.logs.items number ≡ Some one
  pub judged : IsKeyJudged is.head is.lines key one (no_order reason)
  pub counted : IsCounted (unwrap_or is.head.limit 1) judged.log (no_order reason) most

-- the verdict on all keys
abbrev pub IsKeysVerdict : {bytes : List ℕ} {read : KeysLog} → IsKeysLog bytes read → KeysVerdict → Type 0
IsKeysVerdict {bytes} {read} is (Lawful orders) = HaveOrders is (length read.logs.items) orders.items
IsKeysVerdict is (Unlawful number reason most) = IsFirstUnlawful is number reason most

abbrev pub keys_exit : Bool → KeysLog → KeysVerdict → Exit
keys_exit strict read (Lawful orders) = lawful_exit strict (keys_show_little (totals read.logs.items))
keys_exit strict read (Unlawful number reason most) = Unsound

abbrev pub keys_status : Bool → KeysLog → KeysVerdict → ℕ
keys_status strict read verdict = status_at (keys_exit strict read verdict)

-- a small log if that is asked for, else the verdict
abbrev pub shown : Show → Bool → List ℕ → KeysLog → KeysVerdict → List ℕ
shown show true bytes read verdict = small_keys read verdict
shown show false bytes read verdict = keys_text show.order bytes read verdict

abbrev pub printed : Show → List ℕ → KeysLog → KeysVerdict → Answer
printed show bytes read verdict =
    record { text = shown show show.small bytes read verdict; status = keys_status show.strict read verdict }

-- the verdict on the log that the bytes stand for
pub record KeysFound (show : Show) (bytes : List ℕ) (answer : Answer) : Type 0 where
  pub read : KeysLog
  pub verdict : KeysVerdict
  pub is : IsKeysLog bytes read
  pub judged : IsKeysVerdict is verdict
  pub told : answer ≡ printed show bytes read verdict

-- the answer to the bytes of a log whose operations have several keys
abbrev pub IsKeysAnswer : Show → List ℕ → Result Answer Fault → Type 0
IsKeysAnswer show bytes (Ok answer) = KeysFound show bytes answer
IsKeysAnswer show bytes (Err f) = IsKeysFault bytes f
