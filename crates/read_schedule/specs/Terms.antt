-- The terms of a schedule over a matrix of cells: several under the key `terms`, or one whose keys stand at
-- the top (this project's own).
use Rattle.std.specs.Prelude.{ℕ, List, [], ◌∷◌, length, Bool, true, false, is_some, Result, Ok, ⊤}
use Rattle.serde_json.specs.Data.{Data}
use Rattle.serde_json.specs.Find.{get}
use Rattle.history_core.specs.declared.band.Band.{Band}
use Rattle.history_core.specs.declared.wish.Wish.{Wish}
use Rattle.matrix_core.specs.declared.schedule.MatrixTerm.{MatrixTerm}
use Rattle.read_document.specs.declared.refusal.DocError.{DocError}
use Rattle.read_document.specs.declared.refusal.DocError.TheVariants.{Range}
use Rattle.read_document.specs.declared.key.Key.{Key}
use Rattle.read_document.specs.declared.key.Key.TheVariants.{Limit, Plans, Steps, Terms}
use Rattle.read_document.specs.Keys.{name_of}
use Rattle.read_schedule.specs.Plans.{are_of, plans_in_range, terms_in_range}
use Rattle.history_fields.specs.Fields.{limit_in_range}
use Rattle.read_document.specs.Refusals.{◌>>=◌, field, must, required}
use Rattle.read_document.specs.Values.{as_whole}
use Rattle.read_history.specs.Shapes.{as_list, as_plan}
use Rattle.read_schedule.specs.Shapes.{as_term}

-- the terms stand under their key, and are told in the report
abbrev pub is_titled : Data → Bool
is_titled d = is_some (get (name_of Terms) d)

-- their keys are there
abbrev pub terms_there : Bool → Data → Result ⊤ DocError
terms_there true d = required (Terms ∷ []) d
terms_there false d = required (Limit ∷ Plans ∷ Steps ∷ []) d

-- several terms: their shape, then their range
unfoldable pub several_in : Data → Result (List (MatrixTerm Band)) DocError
several_in d = do
  terms ← field Terms (as_list as_term) d
  terms_ok ← must (terms_in_range terms) (Range Terms)
  Ok terms

abbrev pub single : ℕ → List (List (Wish Band)) → List ℕ → List (MatrixTerm Band)
single limit plans steps = record { limit = limit; plans = plans; steps = steps } ∷ []

-- one term: the shapes of its keys, then their ranges
unfoldable pub single_in : Data → Result (List (MatrixTerm Band)) DocError
single_in d = do
  limit ← field Limit as_whole d
  plans ← field Plans (as_list as_plan) d
  steps ← field Steps (as_list as_whole) d
  limit_ok ← must (limit_in_range limit) (Range Limit)
  plans_ok ← must (plans_in_range plans) (Range Plans)
  steps_ok ← must (are_of (length plans) steps) (Range Steps)
  Ok (single limit plans steps)

abbrev pub terms_in : Bool → Data → Result (List (MatrixTerm Band)) DocError
terms_in true d = several_in d
terms_in false d = single_in d

-- the key whose law their writes have to obey
abbrev pub writes_key : Bool → Key
writes_key true = Terms
writes_key false = Plans
