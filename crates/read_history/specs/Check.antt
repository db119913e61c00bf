-- Documents of kind `check`: a history and an order of it (this project's own).
use Rattle.std.specs.Prelude.{ℕ, List, [], ◌∷◌, length, codes, Bool, nat_le, ◌&&◌, if◌then◌else◌, Result, Ok, Err, ⊤}
use Rattle.std.specs.List.{list_all}
use Rattle.serde_json.specs.Data.{Data}
use Rattle.history_core.specs.Band.{fits}
use Rattle.history_core.specs.declared.band.Band.{Band}
use Rattle.history_core.specs.declared.history.Op.{Op}
use Rattle.read_history.specs.declared.document.CheckDocument.{CheckDocument}
use Rattle.read_document.specs.declared.refusal.DocError.{DocError}
use Rattle.read_document.specs.declared.refusal.DocError.TheVariants.{Range, Law, Kind as OfKind}
use Rattle.read_document.specs.declared.key.Key.TheVariants.{Opening, Limit, Ops, Order}
use Rattle.read_document.specs.Document.{is_kind, value_of}
use Rattle.read_history.specs.Histories.{is_lawful, one_term, ops_in_range}
use Rattle.history_fields.specs.Fields.{limit_in_range}
use Rattle.read_document.specs.Ranges.{count_in_range}
use Rattle.read_document.specs.Refusals.{◌>>=◌, field, must, required}
use Rattle.read_document.specs.Values.{as_whole}
use Rattle.read_history.specs.Shapes.{as_band, as_op, as_list}

abbrev pub is_place : ℕ → Bool
is_place place = nat_le place 9999

abbrev pub order_in_range : List ℕ → Bool
order_in_range order = count_in_range (length order) && list_all is_place order

-- the ranges, and then the laws
unfoldable pub allowed : Band → ℕ → List (Op Band) → List ℕ → Result ⊤ DocError
allowed opening limit ops order = do
  limit_ok ← must (limit_in_range limit) (Range Limit)
  ops_ok ← must (ops_in_range ops) (Range Ops)
  order_ok ← must (order_in_range order) (Range Order)
  opening_fits ← must (fits opening) (Law Opening)
  must (list_all is_lawful ops) (Law Ops)

unfoldable pub check_in : Data → Result CheckDocument DocError
check_in d = do
  all_there ← required (Opening ∷ Limit ∷ Ops ∷ Order ∷ []) d
  opening ← field Opening as_band d
  limit ← field Limit as_whole d
  ops ← field Ops (as_list as_op) d
  order ← field Order (as_list as_whole) d
  all_allowed ← allowed opening limit ops order
  Ok (record { history = record { opening = opening; terms = one_term limit; ops = ops }; order = order })

-- the same where the document is of its kind
abbrev pub check_document : Data → Result CheckDocument DocError
check_document d = if is_kind (codes "check") d then check_in d else Err OfKind

-- the document that the bytes stand for, or the first refusal with its first key
unfoldable pub check_of : List ℕ → Result CheckDocument DocError
check_of bytes = do
  d ← value_of bytes
  check_document d
