-- The shape of a term (this project's own).
use Rattle.std.specs.Prelude.{codes, Option, Some, option_and_then}
use Rattle.serde_json.specs.Data.{Data}
use Rattle.serde_json.specs.Find.{get}
use Rattle.history_core.specs.declared.band.Band.{Band}
use Rattle.read_document.specs.Values.{as_whole}
use Rattle.read_history.specs.Shapes.{◌>>=◌, as_list, as_plan}
use Rattle.matrix_core.specs.declared.schedule.MatrixTerm.{MatrixTerm}

abbrev pub as_term : Data → Option (MatrixTerm Band)
as_term d = do
  limit ← option_and_then as_whole (get (codes "limit") d)
  plans ← option_and_then (as_list as_plan) (get (codes "plans") d)
  steps ← option_and_then (as_list as_whole) (get (codes "steps") d)
  Some (record { limit = limit; plans = plans; steps = steps })
