-- An operation that a line of a watched log says runs forwards, as in a log whose records repeat.
use Rattle.std.proofs.Common.{◌≡◌, ℕ, ◌≤◌, Bool, true, false, List, refl, ap, ◌∙◌, Option, Some, None, Result, Ok, Err, codes}
use Rattle.std.specs.Prelude.{IfOk, IfSome, if◌then◌else◌}
use Rattle.serde_json.specs.Data.{Data}
use Rattle.serde_json.specs.Find.{get}
use Rattle.read_document.specs.declared.refusal.DocError.{DocError}
use Rattle.read_document.specs.Document.{is_kind, value_of}
use Rattle.read_document.specs.declared.refusal.DocError.TheVariants.{Shape}
use Rattle.read_document.specs.declared.key.Key.TheVariants.{Who}
use Rattle.read_document.specs.Refusals.{◌>>=◌, Gives, some_or}
use Rattle.read_document.specs.Values.{as_whole, optional}
use Rattle.read_exchange.specs.Exchanges.{entry_in, entry_of, ExchangeEntry}
use Rattle.read_exchange.specs.declared.line.ExchangeLine.TheVariants.{Operation, Done}
use Rattle.read_exchange.proofs.ForwardLemmas.{bound, false-true, forwards, ok_or}
use Rattle.watch_lines.specs.WatchEntries.{blank, floor, floor_in, is_blank, RunsForwards, said, watch_entry_in, watch_entry_of}
use Rattle.watch_lines.specs.WatchEntries.{WatchEntry}
use Rattle.watch_lines.specs.WatchEntries.{watched_seen, who_in}
use Rattle.watch_lines.specs.declared.line.WatchLine.{WatchLine}
use Rattle.watch_lines.specs.declared.line.WatchLine.TheVariants.{Exchange, Floor, Blank}

abbrev said_or : ExchangeEntry → WatchEntry → ExchangeEntry
said_or d (said who e) = e
said_or d (floor who at) = d
said_or d blank = d

abbrev is_said : WatchEntry → Bool
is_said (said who e) = true
is_said (floor who at) = false
is_said blank = false

by_kind : (b : Bool) (d : Data) (who : Option ℕ) (e : ExchangeEntry) →
    (if b
    then (floor_in d
    >>= (λ at. some_or (Shape Who) (optional as_whole (get (codes "who") d)) >>= (λ task. Ok (floor task at))))
    else (entry_in d >>= (λ entry. Ok (said (who_in d) entry)))) ≡ Ok (said who e) →
    entry_in d ≡ Ok e
by_kind true d who e is =
    let at = bound (floor_in d) _ _ is in
    let task = bound (some_or (Shape Who) (optional as_whole (get (codes "who") d))) _ _ at.2 in
    false-true (ap is_said (ap (ok_or (said who e)) task.2))
by_kind false d who e is =
    let entry = bound (entry_in d) _ _ is in entry.1 ∙ ap (λ w. Ok (said_or e (ok_or (said who e) w))) entry.2

in_value : (d : Data) (who : Option ℕ) (e : ExchangeEntry) → watch_entry_in d ≡ Ok (said who e) → entry_in d ≡ Ok e
unfolding watch_entry_in
in_value d who e is = by_kind (is_kind (codes "floor") d) d who e is

by_space : (b : Bool) (line : List ℕ) (who : Option ℕ) (e : ExchangeEntry) →
    (if b then Ok blank else (value_of line >>= watch_entry_in)) ≡ Ok (said who e) → entry_of line ≡ Ok e
unfolding entry_of
by_space true line who e is = false-true (ap is_said (ap (ok_or (said who e)) is))
by_space false line who e is =
    let d = bound (value_of line) _ _ is in ap (λ r. r >>= entry_in) d.1 ∙ in_value d.0 who e d.2

-- a line that says an entry says it in a log whose records repeat, too
pub said_there : (line : List ℕ) (who : Option ℕ) (e : ExchangeEntry) → watch_entry_of line ≡ Ok (said who e) →
    entry_of line ≡ Ok e
unfolding watch_entry_of
said_there line who e is = by_space (is_blank line) line who e is

if_some : (ends : Option ℕ) (begin : ℕ) → ((end : ℕ) → ends ≡ Some end → begin ≤ end) → IfSome ends (λ end. begin ≤ end)
if_some None begin h = tt
if_some (Some end) begin h = h end refl

pub line_forwards : (bytes : List ℕ) (line : WatchLine) → watch_entry_of bytes ≡ Ok (watched_seen line) → RunsForwards line
line_forwards bytes (Exchange who (Operation o)) is =
    if_some o.end o.begin (λ end ends. forwards bytes _ end (said_there bytes who _ is) ends)
line_forwards bytes (Exchange who (Done ops)) is = tt
line_forwards bytes (Floor who at) is = tt
line_forwards bytes Blank is = tt

-- what was read of the value of a line
pub forwards_if : (bytes : List ℕ) (d : Data) (found : Result WatchLine DocError) → is_blank bytes ≡ false → value_of bytes ≡ Ok d →
    Gives watched_seen found (watch_entry_in d) → IfOk found RunsForwards
unfolding watch_entry_of
forwards_if bytes d (Ok line) space value said_so =
    line_forwards bytes line (ap (λ (b : Bool). if b then Ok blank else (value_of bytes >>= watch_entry_in)) space
    ∙ (ap (λ (r : Result Data DocError). r >>= watch_entry_in) value ∙ said_so))
forwards_if bytes d (Err why) space value said_so = tt
