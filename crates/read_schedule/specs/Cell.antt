-- Documents of kind `cell`: a schedule of a four-slot register (this project's own).
use Rattle.std.specs.Prelude.{ℕ, ◌+◌, List, [], ◌∷◌, length, Result, Ok, ⊤}
use Rattle.std.specs.List.{list_all}
use Rattle.serde_json.specs.Data.{Data}
use Rattle.history_core.specs.Band.{fits}
use Rattle.history_core.specs.declared.band.Band.{Band}
use Rattle.four_slot_core.specs.declared.schedule.CellSchedule.{CellSchedule}
use Rattle.read_document.specs.declared.refusal.DocError.{DocError}
use Rattle.read_document.specs.declared.refusal.DocError.TheVariants.{Range, Law}
use Rattle.read_document.specs.declared.key.Key.TheVariants.{Opening, Noise, Writes, Reads, Steps}
use Rattle.read_document.specs.Ranges.{count_in_range}
use Rattle.read_schedule.specs.Ranges.{steps_in_range}
use Rattle.read_document.specs.Refusals.{◌>>=◌, field, must, required}
use Rattle.read_document.specs.Values.{as_whole}
use Rattle.read_history.specs.Shapes.{as_band, as_list}
use Rattle.read_schedule.specs.CellShapes.{as_turns}

-- the ranges, and then the laws
unfoldable pub allowed : Band → List Band → ℕ → ℕ → Result ⊤ DocError
allowed opening writes reads steps = do
  writes_ok ← must (count_in_range (length writes)) (Range Writes)
  reads_ok ← must (count_in_range (length writes + reads)) (Range Reads)
  steps_ok ← must (steps_in_range steps) (Range Steps)
  opening_fits ← must (fits opening) (Law Opening)
  must (list_all fits writes) (Law Writes)

unfoldable pub cell_in : Data → Result (CellSchedule Band) DocError
cell_in d = do
  all_there ← required (Opening ∷ Noise ∷ Writes ∷ Reads ∷ Steps ∷ []) d
  opening ← field Opening as_band d
  noise ← field Noise as_band d
  writes ← field Writes (as_list as_band) d
  reads ← field Reads as_whole d
  steps ← field Steps as_turns d
  all_allowed ← allowed opening writes reads (length steps)
  Ok (record { opening = opening; noise = noise; steps = steps; writes = writes; reads = reads })
