-- The lines of a log: its header, its operations, and the line that may end it (this project's own).
-- A record stands as its text.
use Rattle.std.specs.Prelude.{◌≡◌, ℕ, List, [], ◌∷◌, codes, Bool, true, not, ◌&&◌, ◌||◌, nat_le, is_some}
use Rattle.std.specs.Prelude.{if◌then◌else◌, Option, Some, None}
use Rattle.std.specs.Prelude.{option_map}
use Rattle.std.specs.Prelude.{option_and_then, Result, Ok, Err, ⊤, string_bytes}
use Rattle.std.specs.Option.{option_map_or}
use Rattle.serde_json.specs.Data.{Data}
use Rattle.serde_json.specs.Find.{as_str, get}
use Rattle.history_core.specs.Orders.{is_write}
use Rattle.history_core.specs.declared.history.Kind.{Kind}
use Rattle.history_core.specs.declared.history.Op.{Op}
use Rattle.read_document.specs.declared.refusal.DocError.{DocError}
use Rattle.read_document.specs.declared.refusal.DocError.TheVariants.{Law, Range, Shape, Kind as OfKind}
use Rattle.read_document.specs.declared.key.Key.TheVariants as key
use Rattle.read_document.specs.Document.{is_kind, value_of}
use Rattle.read_document.specs.LineFields.{done_in, key_in, record_in}
use Rattle.read_document.specs.Records.{record_text}
use Rattle.history_fields.specs.Fields.{limit_in_range}
use Rattle.read_document.specs.Refusals.{◌>>=◌, field, must, required, some_or}
use Rattle.history_fields.specs.Fields.{kind_named}
use Rattle.read_document.specs.Values.{as_whole, optional}
use Rattle.read_line.specs.declared.line.LogHeader.{LogHeader}
use Rattle.read_line.specs.declared.line.LogLine.{LogLine}
use Rattle.read_line.specs.declared.line.LogLine.TheVariants.{Operation, Done}
use Rattle.read_line.specs.declared.line.LineOp.{LineOp}

-- ---- what a line says

-- an operation, and its key if it has one
pub record KeyedOp : Type 0 where
  pub key : Option (List ℕ)
  pub op : Op (List ℕ)

-- an operation, or how many there are
pub data LineEntry : Type 0 where
  operation : KeyedOp → LineEntry
  done : ℕ → LineEntry

-- what the log is of
pub record Head : Type 0 where
  pub opening : List ℕ
  pub limit : Option ℕ

-- the same of what was read
abbrev pub op_seen : LineOp → Op (List ℕ)
op_seen o =
    record { who = o.who; kind = o.kind; starts = o.begin; ends = o.end; item = option_map string_bytes o.«record» }

abbrev pub keyed_seen : LineOp → KeyedOp
keyed_seen o = record { key = option_map string_bytes o.key; op = op_seen o }

abbrev pub line_seen : LogLine → LineEntry
line_seen (Operation o) = operation (keyed_seen o)
line_seen (Done ops) = done ops

abbrev pub head_seen : LogHeader → Head
head_seen h = record { opening = string_bytes h.opening; limit = h.limit }

-- ---- how it is read

-- an operation doesn't end before it begins, and only a read or a refused write that is unfinished may have no record
abbrev pub ends_later : ℕ → Option ℕ → Bool
ends_later begin ends = option_map_or (λ end. nat_le begin end) ends true

abbrev pub has_record : Kind → Option ℕ → Bool → Bool
has_record kind ends there = there || (not (is_some ends) && not (is_write kind))

-- the same of an operation that was read
pub record IsAllowed (o : LineOp) : Type 0 where
  pub forwards : ends_later o.begin o.end ≡ true
  pub recorded : has_record o.kind o.end (is_some o.«record») ≡ true

abbrev pub MayFollow : LogLine → Type 0
MayFollow (Operation o) = IsAllowed o
MayFollow (Done ops) = Unit {0}

unfoldable pub allowed : Kind → ℕ → Option ℕ → Bool → Result ⊤ DocError
allowed kind begin ends there = do
  in_order ← must (ends_later begin ends) (Law key.End)
  must (has_record kind ends there) (Law key.Record)

abbrev pub kind_in : Data → Option Kind
kind_in d = option_and_then kind_named (option_and_then as_str (get (codes "kind") d))

unfoldable pub operation_in : Data → Result KeyedOp DocError
operation_in d = do
  all_there ← required (key.Who ∷ key.Kind ∷ key.Begin ∷ key.End ∷ key.Record ∷ []) d
  who ← field key.Who as_whole d
  kind ← some_or (Shape key.Kind) (kind_in d)
  begin ← field key.Begin as_whole d
  ends ← some_or (Shape key.End) (optional as_whole (get (codes "end") d))
  item ← record_in d
  which ← key_in d
  as_allowed ← allowed kind begin ends (is_some item)
  Ok (record { key = which; op = record { who = who; kind = kind; starts = begin; ends = ends; item = item } })

unfoldable pub entry_in : Data → Result LineEntry DocError
entry_in d = if is_kind (codes "done") d then (do
  ops ← done_in d
  Ok (done ops)) else (do
    op ← operation_in d
    Ok (operation op))

-- what a line says, or its first refusal
unfoldable pub entry_of : List ℕ → Result LineEntry DocError
entry_of bytes = do
  d ← value_of bytes
  entry_in d

unfoldable pub head_in : Data → Result Head DocError
head_in d = do
  there ← required (key.Opening ∷ []) d
  opening ← field key.Opening record_text d
  limit ← some_or (Shape key.Limit) (optional as_whole (get (codes "limit") d))
  in_range ← must (option_map_or limit_in_range limit true) (Range key.Limit)
  Ok (record { opening = opening; limit = limit })

-- what the header says, or its first refusal
unfoldable pub head_of : List ℕ → Result Head DocError
head_of bytes = do
  d ← value_of bytes
  (if is_kind (codes "lines") d then head_in d else Err OfKind)
