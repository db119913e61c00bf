-- The lines behind the header of a log that is watched: those of a log whose records repeat, and floors (this project's
-- own). White space alone says nothing.
use Rattle.std.specs.Prelude.{ℕ, List, [], ◌∷◌, length, codes, Bool, ◌&&◌, nat_le, if◌then◌else◌, IfSome, ◌≤◌, Result}
use Rattle.std.specs.Prelude.{Ok, Option, option_and_then}
use Rattle.std.specs.Char.{is_ascii_whitespace}
use Rattle.std.specs.List.{list_all}
use Rattle.serde_json.specs.Data.{Data}
use Rattle.serde_json.specs.Find.{get}
use Rattle.read_document.specs.declared.refusal.DocError.{DocError}
use Rattle.read_document.specs.declared.refusal.DocError.TheVariants.{Shape}
use Rattle.read_document.specs.declared.key.Key.TheVariants.{Begin, Who}
use Rattle.read_document.specs.Document.{is_kind, max_bytes, value_of}
use Rattle.read_document.specs.Refusals.{◌>>=◌, field, required, some_or}
use Rattle.read_document.specs.Values.{as_whole, optional}
use Rattle.read_exchange.specs.Exchanges.{entry_in, ExchangeEntry, line_seen}
use Rattle.read_exchange.specs.declared.line.ExchangeLine.TheVariants.{Operation, Done}
use Rattle.read_exchange.specs.declared.line.ExchangeOp.{ExchangeOp}
use Rattle.watch_lines.specs.declared.line.WatchLine.{WatchLine}
use Rattle.watch_lines.specs.declared.line.WatchLine.TheVariants.{Exchange, Floor, Blank}

-- what a line of a log whose records repeat says, and of which task; or a floor: a moment before which no operation on
-- a later line begins, of this task, or of any
pub data WatchEntry : Type 0 where
  said : Option ℕ → ExchangeEntry → WatchEntry
  floor : Option ℕ → ℕ → WatchEntry
  blank : WatchEntry

-- the same of what was read
abbrev pub watched_seen : WatchLine → WatchEntry
watched_seen (Exchange who line) = said who (line_seen line)
watched_seen (Floor who at) = floor who at
watched_seen Blank = blank

-- an operation didn't end before it began
abbrev pub IsForward : ExchangeOp → Type 0
IsForward o = IfSome o.end (λ end. o.begin ≤ end)

abbrev pub RunsForwards : WatchLine → Type 0
RunsForwards (Exchange who (Operation o)) = IsForward o
RunsForwards (Exchange who (Done ops)) = Unit {0}
RunsForwards (Floor who at) = Unit {0}
RunsForwards Blank = Unit {0}

abbrev pub is_blank : List ℕ → Bool
is_blank line = nat_le (length line) max_bytes && list_all is_ascii_whitespace line

unfoldable pub floor_in : Data → Result ℕ DocError
floor_in d = do
  there ← required (Begin ∷ []) d
  field Begin as_whole d

-- the task of an operation
abbrev pub who_in : Data → Option ℕ
who_in d = option_and_then as_whole (get (codes "who") d)

unfoldable pub watch_entry_in : Data → Result WatchEntry DocError
watch_entry_in d = if is_kind (codes "floor") d then (do
  at ← floor_in d
  who ← some_or (Shape Who) (optional as_whole (get (codes "who") d))
  Ok (floor who at)) else (do
    entry ← entry_in d
    Ok (said (who_in d) entry))

-- what a line says, or its first refusal
unfoldable pub watch_entry_of : List ℕ → Result WatchEntry DocError
watch_entry_of line = if is_blank line then Ok blank else (do
  d ← value_of line
  watch_entry_in d)
