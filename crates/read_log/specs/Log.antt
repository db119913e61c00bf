-- Documents of kind `log`: a history alone (this project's own).
use Rattle.std.specs.Prelude.{◌≡◌, ℕ, List, [], ◌∷◌, codes, true, if◌then◌else◌, Result, Ok, Err}
use Rattle.std.specs.Prelude.{option_and_then, unwrap_or}
use Rattle.std.specs.List.{list_all}
use Rattle.serde_json.specs.Data.{Data}
use Rattle.serde_json.specs.Find.{get}
use Rattle.history_core.specs.Band.{fits}
use Rattle.history_core.specs.declared.band.Band.{Band}
use Rattle.history_core.specs.declared.history.History.{History}
use Rattle.read_document.specs.declared.refusal.DocError.{DocError}
use Rattle.read_document.specs.declared.refusal.DocError.TheVariants.{Range, Law, Kind as OfKind}
use Rattle.read_document.specs.declared.key.Key.TheVariants.{Opening, Limit, Ops}
use Rattle.read_document.specs.Document.{is_kind, value_of}
use Rattle.read_history.specs.Histories.{is_lawful, one_term, ops_in_range}
use Rattle.history_fields.specs.Fields.{limit_in_range}
use Rattle.read_document.specs.Refusals.{◌>>=◌, field, must, required}
use Rattle.read_document.specs.Values.{as_whole}
use Rattle.read_history.specs.Shapes.{as_band, as_op, as_list}

unfoldable pub log_in : Data → Result (History Band) DocError
log_in d = do
  all_there ← required (Opening ∷ Limit ∷ Ops ∷ []) d
  opening ← field Opening as_band d
  limit ← field Limit as_whole d
  ops ← field Ops (as_list as_op) d
  limit_ok ← must (limit_in_range limit) (Range Limit)
  ops_ok ← must (ops_in_range ops) (Range Ops)
  opening_fits ← must (fits opening) (Law Opening)
  ops_lawful ← must (list_all is_lawful ops) (Law Ops)
  Ok (record { opening = opening; terms = one_term limit; ops = ops })

-- the same where the document is of its kind
abbrev pub log_document : Data → Result (History Band) DocError
log_document d = if is_kind (codes "log") d then log_in d else Err OfKind

-- the document that the bytes stand for, or the first refusal with its first key
unfoldable pub log_of : List ℕ → Result (History Band) DocError
log_of bytes = do
  d ← value_of bytes
  log_document d

-- the lines on which the operations stand in a log in lines, if the document has whole numbers in an array under
-- `lines`; else none is known
abbrev pub lines_in : Data → List ℕ
lines_in d = unwrap_or (option_and_then (as_list as_whole) (get (codes "lines") d)) []

-- what an order is looked for of: a history with one term, whose operations are lawful
pub record CanBeSearched (history : History Band) : Type 0 where
  pub limit : ℕ
  pub one : history.terms ≡ one_term limit
  pub lawful : list_all is_lawful history.ops ≡ true
