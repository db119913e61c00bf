-- The schedule or the race that bytes stand for, or the first refusal with its first key (this project's own).
use Rattle.std.specs.Prelude.{ℕ, List, codes, if◌then◌else◌, Result, Ok, Err}
use Rattle.serde_json.specs.Data.{Data}
use Rattle.read_document.specs.Document.{is_kind, value_of}
use Rattle.read_document.specs.Refusals.{◌>>=◌}
use Rattle.read_document.specs.declared.refusal.DocError.{DocError}
use Rattle.read_document.specs.declared.refusal.DocError.TheVariants.{Kind}
use Rattle.read_schedule.specs.Cell.{cell_in}
use Rattle.read_schedule.specs.Board.{board_in}
use Rattle.read_schedule.specs.Matrix.{matrix_in}
use Rattle.read_schedule.specs.Race.{race_in}
use Rattle.read_schedule.specs.declared.document.RaceDocument.{RaceDocument}
use Rattle.read_schedule.specs.declared.document.ScheduleDocument.{ScheduleDocument}
use Rattle.read_schedule.specs.declared.document.ScheduleDocument.TheVariants.{Cell}

-- the schedule of a cell, as one of the schedules
abbrev pub cell_schedule : Data → Result ScheduleDocument DocError
cell_schedule d = do
  schedule ← cell_in d
  Ok (Cell schedule)

-- a document of one of the kinds of schedules
abbrev pub schedule_document : Data → Result ScheduleDocument DocError
schedule_document d =
    if is_kind (codes "cell") d then cell_schedule d
    else (if is_kind (codes "matrix") d then matrix_in d
    else (if is_kind (codes "board") d then board_in d
    else Err Kind))

abbrev pub race_document : Data → Result RaceDocument DocError
race_document d = if is_kind (codes "race") d then race_in d else Err Kind

unfoldable pub schedule_of : List ℕ → Result ScheduleDocument DocError
schedule_of bytes = do
  d ← value_of bytes
  schedule_document d

unfoldable pub race_of : List ℕ → Result RaceDocument DocError
race_of bytes = do
  d ← value_of bytes
  race_document d
