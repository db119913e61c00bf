-- Documents of kind `race`: a script for each of several tasks that share one board (this project's own).
use Rattle.std.specs.Prelude.{[], ◌∷◌, Result, Ok}
use Rattle.serde_json.specs.Data.{Data}
use Rattle.history_core.specs.Band.{fits}
use Rattle.read_schedule.specs.declared.document.RaceDocument.{RaceDocument}
use Rattle.read_document.specs.declared.refusal.DocError.{DocError}
use Rattle.read_document.specs.declared.refusal.DocError.TheVariants.{Range, Law}
use Rattle.read_document.specs.declared.key.Key.TheVariants.{Opening, Limit, Scripts}
use Rattle.read_schedule.specs.Plans.{plans_fit, plans_in_range}
use Rattle.history_fields.specs.Fields.{limit_in_range}
use Rattle.read_document.specs.Refusals.{◌>>=◌, field, must, required}
use Rattle.read_document.specs.Values.{as_whole}
use Rattle.read_history.specs.Shapes.{as_band, as_list, as_plan}

-- a script is a plan by another name
unfoldable pub race_in : Data → Result RaceDocument DocError
race_in d = do
  all_there ← required (Opening ∷ Limit ∷ Scripts ∷ []) d
  opening ← field Opening as_band d
  limit ← field Limit as_whole d
  scripts ← field Scripts (as_list as_plan) d
  limit_ok ← must (limit_in_range limit) (Range Limit)
  scripts_ok ← must (plans_in_range scripts) (Range Scripts)
  opening_fits ← must (fits opening) (Law Opening)
  writes_fit ← must (plans_fit scripts) (Law Scripts)
  Ok (record { opening = opening; limit = limit; scripts = scripts })
