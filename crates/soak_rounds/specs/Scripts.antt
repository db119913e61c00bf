-- The scripts of a soak's tasks, and how their logs are counted (this project's own).
use Rattle.std.specs.Prelude.{◌≡◌, ◌↔◌, ℕ, ◌+◌, Bool, true, false, List, [], ◌∷◌, ◌++◌, count_by}
use Rattle.std.specs.Prelude.{length, map, None, slice_get, Some}
use Rattle.history_core.specs.declared.wish.Wish.{Wish}
use Rattle.history_core.specs.declared.wish.Wish.TheVariants.{Write, Read}
use Rattle.board_tasks.specs.declared.lane.Entry.{Entry}
use Rattle.board_tasks.specs.declared.lane.Reply.{Reply}
use Rattle.board_tasks.specs.declared.lane.Reply.TheVariants.{Written, Seen, Ended}
use Rattle.board_tasks.specs.declared.origin.Origin.TheVariants.{Sound}
use Rattle.board_tasks.specs.Origins.{IsOrigin}
use Rattle.soak_rounds.specs.declared.finding.Tally.{Tally}
use Rattle.soak_rounds.specs.Findings.{counted}
use Rattle.soak_rounds.specs.Records.{IsWholeRecord}

-- `words` are those of a record
module _ {X : Type 0} (words : X → List ℕ) where
  -- writes and reads by turns. The first write has this number, and each next one a number so much greater
  pub data Scripted (first step : ℕ) : ℕ → ℕ → List (Wish X) → Type 0 where
    no_call : Scripted first step 0 first []
    two_calls : (n number : ℕ) (s : List (Wish X)) (x : X) → Scripted first step n number s →
        IsWholeRecord (words x) number →
        Scripted first step (n + 1) (counted number step) ((s ++ Write x ∷ []) ++ Read ∷ [])

abbrev pub is_written : {X : Type 0} → Reply X → Bool
is_written (Written s) = true
is_written (Seen p) = false
is_written (Ended p) = false

-- how many of a log's entries wrote a record
abbrev pub writes_of : {X : Type 0} → List (Entry X) → ℕ
writes_of log = count_by (λ e. is_written e.reply) log

abbrev pub is_seen : {X : Type 0} → Reply X → Bool
is_seen (Written s) = false
is_seen (Seen p) = true
is_seen (Ended p) = true

-- how many saw one
abbrev pub reads_of : {X : Type 0} → List (Entry X) → ℕ
reads_of log = count_by (λ e. is_seen e.reply) log

-- what was counted in each log, one after the other
abbrev pub counted_in : {X : Type 0} → (List (Entry X) → ℕ) → ℕ → List (List (Entry X)) → ℕ
counted_in of sum [] = sum
counted_in of sum (log ∷ logs) = counted_in of (counted sum (of log)) logs

-- what is counted in logs of tasks, and that nothing is found exactly where every record has its origin
pub record IsTally {X : Type 0} (equal : X → X → Bool) (opening : X) (logs : List (List (Entry X)))
    (tally : Tally) : Type 0 where
  pub writes : tally.writes ≡ counted_in writes_of 0 logs
  pub reads : tally.reads ≡ counted_in reads_of 0 logs
  pub found : (tally.found ≡ None) ↔ IsOrigin equal opening logs Sound

-- a round of so many tasks on a board that opened with this record: each made so many writes and
-- reads, and these logs are counted
pub record IsRound {X : Type 0} (words : X → List ℕ) (equal : X → X → Bool) (opening : X)
    (tasks from calls : ℕ) (tally : Tally) : Type 0 where
  pub logs : List (List (Entry X))
  pub all : length logs ≡ tasks
  pub each : (k : ℕ) (log : List (Entry X)) → slice_get logs k ≡ Some log
      → (next : ℕ) × Scripted words (counted (counted from k) 1) tasks calls next (map (λ e. e.wish) log)
  pub seen : IsTally equal opening logs tally
