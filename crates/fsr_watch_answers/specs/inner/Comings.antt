-- What comes of what has come of an input. Only private functions cite this, which is this project's own.
use Rattle.std.specs.Prelude.{◌≡◌, ℕ, ◌++◌, ◌∷◌, [], List, Option, None, Result, Ok, Err}
use Rattle.std.specs.Io.KnownBytes.{Consumes}
use Rattle.text_lines.specs.Splits.{lines_of}
use Rattle.watch_lines.specs.Replies.{GoOn, IsToldFrom, StopAt, TellsIf}
use Rattle.watch_lines.specs.Seen.{LinesSeen}
use Rattle.watch_lines.specs.Watchers.{KnowsIf}
use Rattle.watch_lines.specs.declared.told.Told.{Told}
use Rattle.watch_lines.specs.declared.told.WatchFault.{WatchFault}
use Rattle.watch_lines.specs.declared.watcher.Watcher.{Watcher}
use Rattle.fsr_watch_answers.specs.Fronts.{HasNoFeed}
use Rattle.fsr_watch_answers.specs.declared.lines.Coming.{Coming}
use Rattle.fsr_watch_answers.specs.declared.lines.Coming.TheVariants.{GoesOn, Stops}

-- whole lines of what had come were read, and this is left behind them, whatever comes then
pub record IsWatchedTo (seen : Option LinesSeen) (old left : List ℕ) (read : Option Watcher) : Type 0 where
  pub lines : List (List ℕ)
  pub after : Option LinesSeen
  pub goes : GoOn seen lines after
  pub knows : KnowsIf after read
  pub split : (x : List ℕ) → lines_of (old ++ x) ≡ lines ++ lines_of (left ++ x)

-- all whole lines were; or one of them stops, whatever comes then
abbrev pub HasWatched : Option LinesSeen → List ℕ → List ℕ → Coming → Type 0
HasWatched seen old new (GoesOn read) = IsWatchedTo seen old new read × HasNoFeed new
HasWatched seen old new (Stops reply) = TellsIf (λ r. (x : List ℕ) → StopAt seen (lines_of (old ++ x)) r) reply

-- the line that is left at the end, if there is one
abbrev pub last_lines : List ℕ → List (List ℕ)
last_lines [] = []
last_lines (byte ∷ bytes) = (byte ∷ bytes) ∷ []

abbrev pub IsLastTold : Option LinesSeen → List ℕ → Result Told WatchFault → Type 0
IsLastTold seen bytes reply = TellsIf (IsToldFrom seen (last_lines bytes)) reply

-- a line that begins so is told of, however it goes on
abbrev pub IsLongTold : Option LinesSeen → List ℕ → Result Told WatchFault → Type 0
IsLongTold seen bytes reply =
    TellsIf (λ r. (y : List ℕ) (lines : List (List ℕ)) → StopAt seen ((bytes ++ y) ∷ lines) r) reply

-- so far: what was taken of the input was watched to here, and its last line, if it is begun, has no line feed yet
pub record IsSoFar (old new : Option (List ℕ)) (read : Option Watcher) (left : List ℕ) : Type 0 where
  pub taken : List ℕ
  pub takes : Consumes old new taken
  pub to : IsWatchedTo None taken left read
  pub open_line : HasNoFeed left
