-- Documents of kind `board`: a schedule over a composed board, a matrix whose cells are four-slot cells. It is that of
-- a matrix, and the noise (this project's own).
use Rattle.std.specs.Prelude.{[], ◌∷◌, Result, Ok}
use Rattle.std.specs.List.{list_all}
use Rattle.serde_json.specs.Data.{Data}
use Rattle.history_core.specs.Band.{fits}
use Rattle.read_schedule.specs.declared.document.ScheduleDocument.{ScheduleDocument}
use Rattle.read_schedule.specs.declared.document.ScheduleDocument.TheVariants as document
use Rattle.read_document.specs.declared.refusal.DocError.{DocError}
use Rattle.read_document.specs.declared.refusal.DocError.TheVariants.{Law}
use Rattle.read_document.specs.declared.key.Key.TheVariants.{Opening, Noise}
use Rattle.read_schedule.specs.Plans.{term_fits}
use Rattle.read_document.specs.Refusals.{◌>>=◌, field, must, required}
use Rattle.read_history.specs.Shapes.{as_band}
use Rattle.read_schedule.specs.Terms.{is_titled, terms_in, terms_there, writes_key}

unfoldable pub board_in : Data → Result ScheduleDocument DocError
board_in d = do
  records_there ← required (Opening ∷ Noise ∷ []) d
  keys_there ← terms_there (is_titled d) d
  opening ← field Opening as_band d
  noise ← field Noise as_band d
  terms ← terms_in (is_titled d) d
  opening_fits ← must (fits opening) (Law Opening)
  writes_fit ← must (list_all term_fits terms) (Law (writes_key (is_titled d)))
  Ok (document.Board (record { opening = opening; noise = noise; terms = terms }) (is_titled d))
