-- The lines behind the header of a log whose records repeat: its operations, among them compare-and-sets, and the line
-- that may end it (this project's own). Records stand as their texts.
use Rattle.std.specs.Prelude.{ℕ, List, [], ◌∷◌, codes, Bool, true, false, not, ◌||◌, if◌then◌else◌}
use Rattle.std.specs.Prelude.{is_none, is_some, Option, Some, None, option_and_then, option_map, string_bytes}
use Rattle.std.specs.Prelude.{Result, Ok}
use Rattle.std.specs.Str.{bytes_eq}
use Rattle.serde_json.specs.Data.{Data}
use Rattle.serde_json.specs.Find.{as_bool, as_str, get}
use Rattle.object_core.specs.declared.operation.Operation.{Operation}
use Rattle.read_document.specs.declared.refusal.DocError.{DocError}
use Rattle.read_document.specs.declared.refusal.DocError.TheVariants.{Law, Shape}
use Rattle.read_document.specs.declared.key.Key.TheVariants as key
use Rattle.read_document.specs.Document.{is_kind, value_of}
use Rattle.read_document.specs.Refusals.{◌>>=◌, field, must, required, some_or}
use Rattle.read_document.specs.Values.{as_whole, optional}
use Rattle.read_document.specs.LineFields.{done_in, key_in, record_in}
use Rattle.read_line.specs.Lines.{ends_later}
use Rattle.read_document.specs.Records.{record_text}
use Rattle.read_exchange.specs.declared.form.Form.{Form}
use Rattle.read_exchange.specs.declared.form.Form.TheVariants.{Write, Maybe, Read, Refused, Cas}
use Rattle.read_exchange.specs.declared.line.ExchangeLine.{ExchangeLine}
use Rattle.read_exchange.specs.declared.line.ExchangeLine.TheVariants as line
use Rattle.read_exchange.specs.declared.line.ExchangeOp.{ExchangeOp}
use Rattle.read_exchange.specs.declared.line.TextExchange.{TextExchange}
use Rattle.read_exchange.specs.declared.line.TextExchange.TheVariants.{Sets, Gets, Swaps, Misses, Finds, Tries, Refuses}

-- ---- what a line says

-- what an operation does: the exchanges of a register with compare-and-set; an unfinished read may have no record
pub data SaidExchange : Type 0 where
  sets : (text : List ℕ) → SaidExchange
  gets : (text : Option (List ℕ)) → SaidExchange
  swaps : (from to : List ℕ) → SaidExchange
  misses : (from to : List ℕ) → SaidExchange
  finds : (from to found : List ℕ) → SaidExchange
  tries : (from to : List ℕ) → SaidExchange
  refuses : (text : List ℕ) → SaidExchange

-- a write was refused
abbrev pub is_refusal : SaidExchange → Bool
is_refusal (sets text) = false
is_refusal (gets text) = false
is_refusal (swaps from to) = false
is_refusal (misses from to) = false
is_refusal (finds from to found) = false
is_refusal (tries from to) = false
is_refusal (refuses text) = true

-- an operation, and its key if it has one
pub record KeyedExchange : Type 0 where
  pub key : Option (List ℕ)
  pub op : Operation SaidExchange

-- an operation, or how many there are
pub data ExchangeEntry : Type 0 where
  operation : KeyedExchange → ExchangeEntry
  done : ℕ → ExchangeEntry

-- the same of what was read
abbrev pub what_seen : TextExchange → SaidExchange
what_seen (Sets text) = sets (string_bytes text)
what_seen (Gets text) = gets (option_map string_bytes text)
what_seen (Swaps from to) = swaps (string_bytes from) (string_bytes to)
what_seen (Misses from to) = misses (string_bytes from) (string_bytes to)
what_seen (Finds from to found) = finds (string_bytes from) (string_bytes to) (string_bytes found)
what_seen (Tries from to) = tries (string_bytes from) (string_bytes to)
what_seen (Refuses text) = refuses (string_bytes text)

abbrev pub exchange_seen : ExchangeOp → Operation SaidExchange
exchange_seen o = record { starts = o.begin; ends = o.end; maybe = o.maybe; what = what_seen o.what }

abbrev pub keyed_seen : ExchangeOp → KeyedExchange
keyed_seen o = record { key = option_map string_bytes o.key; op = exchange_seen o }

abbrev pub line_seen : ExchangeLine → ExchangeEntry
line_seen (line.Operation o) = operation (keyed_seen o)
line_seen (line.Done ops) = done ops

-- ---- how it is read

abbrev pub form_named : List ℕ → Option Form
form_named s =
    if bytes_eq s (codes "write") then Some Write
    else (if bytes_eq s (codes "maybe") then Some Maybe
    else (if bytes_eq s (codes "read") then Some Read
    else (if bytes_eq s (codes "refused") then Some Refused
    else (if bytes_eq s (codes "cas") then Some Cas else None))))

abbrev pub form_in : Data → Option Form
form_in d = option_and_then form_named (option_and_then as_str (get (codes "kind") d))

-- what a compare-and-set compared the record with, whether it left its own, if that is known, and what it found, if
-- that is told
pub record Comparison : Type 0 where
  pub from : List ℕ
  pub swapped : Option Bool
  pub found : Option (List ℕ)

unfoldable pub comparison_in : Data → Result Comparison DocError
comparison_in d = do
  there ← required (key.From ∷ key.Swapped ∷ []) d
  from ← field key.From record_text d
  swapped ← some_or (Shape key.Swapped) (optional as_bool (get (codes "swapped") d))
  found ← some_or (Shape key.Found) (optional record_text (get (codes "found") d))
  Ok (record { from = from; swapped = swapped; found = found })

-- what is asked of an operation by its kind: a write, which may have been none or not, a read, a refused write, or a
-- compare-and-set
pub data Asked : Type 0 where
  writes : (maybe : Bool) → Asked
  reads : Asked
  is_refused : Asked
  compares : Comparison → Asked

abbrev pub asked_in : Form → Data → Result Asked DocError
asked_in Write d = Ok (writes false)
asked_in Maybe d = Ok (writes true)
asked_in Read d = Ok reads
asked_in Refused d = Ok is_refused
asked_in Cas d = comparison_in d >>= (λ c. Ok (compares c))

-- a record is told as found only by a compare-and-set that left none, and is another one than it was compared with
abbrev pub may_find : Option Bool → List ℕ → Option (List ℕ) → Bool
may_find swapped from None = true
may_find None from (Some found) = false
may_find (Some true) from (Some found) = false
may_find (Some false) from (Some found) = not (bytes_eq from found)

abbrev pub exchanged : Option Bool → List ℕ → List ℕ → Option (List ℕ) → SaidExchange
exchanged None from to found = tries from to
exchanged (Some true) from to found = swaps from to
exchanged (Some false) from to None = misses from to
exchanged (Some false) from to (Some other) = finds from to other

-- what an operation does, and whether it may have done nothing
pub record SaidEffect : Type 0 where
  pub maybe : Bool
  pub what : SaidExchange

-- only an operation that has ended knows what it did
unfoldable pub compared : Comparison → Option ℕ → Option (List ℕ) → Result SaidEffect DocError
compared c ends item = do
  to ← some_or (Law key.Record) item
  known ← must (is_none c.swapped || is_some ends) (Law key.Swapped)
  other ← must (may_find c.swapped c.from c.found) (Law key.Found)
  Ok (record { maybe = is_none c.swapped; what = exchanged c.swapped c.from to c.found })

-- only a read that is unfinished may have no record
abbrev pub effect_of : Asked → Option ℕ → Option (List ℕ) → Result SaidEffect DocError
effect_of (writes maybe) ends item =
    some_or (Law key.Record) item >>= (λ text. Ok (record { maybe = maybe; what = sets text }))
effect_of reads ends item =
    must (is_some item || is_none ends) (Law key.Record)
    >>= (λ may. Ok (record { maybe = false; what = gets item }))
effect_of is_refused ends item =
    some_or (Law key.Record) item >>= (λ text. Ok (record { maybe = false; what = refuses text }))
effect_of (compares c) ends item = compared c ends item

unfoldable pub operation_in : Data → Result KeyedExchange DocError
operation_in d = do
  all_there ← required (key.Who ∷ key.Kind ∷ key.Begin ∷ key.End ∷ key.Record ∷ []) d
  who ← field key.Who as_whole d
  form ← some_or (Shape key.Kind) (form_in d)
  begin ← field key.Begin as_whole d
  ends ← some_or (Shape key.End) (optional as_whole (get (codes "end") d))
  item ← record_in d
  which ← key_in d
  asked ← asked_in form d
  in_order ← must (ends_later begin ends) (Law key.End)
  effect ← effect_of asked ends item
  Ok (record { key = which; op = record { starts = begin; ends = ends; maybe = effect.maybe; what = effect.what } })

unfoldable pub entry_in : Data → Result ExchangeEntry DocError
entry_in d = if is_kind (codes "done") d then (do
  ops ← done_in d
  Ok (done ops)) else (do
    op ← operation_in d
    Ok (operation op))

-- what a line says, or its first refusal
unfoldable pub entry_of : List ℕ → Result ExchangeEntry DocError
entry_of bytes = do
  d ← value_of bytes
  entry_in d
