-- The answer to the schedule of a cell: the text of the report of its run, or the fault (this project's own).
use Rattle.std.specs.Prelude.{◌≡◌, [], ◌∷◌, Result, Ok, Err}
use Rattle.four_slot_core.specs.Play.{cell_span}
use Rattle.four_slot_core.specs.declared.schedule.CellReport.{CellReport}
use Rattle.four_slot_core.specs.declared.schedule.CellSchedule.{CellSchedule}
use Rattle.four_slot_play.specs.CellReports.{IsCellReport}
use Rattle.program_runs.specs.declared.fault.Answer.{Answer}
use Rattle.program_runs.specs.declared.fault.Fault.{Fault}
use Rattle.program_runs.specs.declared.fault.Fault.TheVariants as fault
use Rattle.program_streams.specs.Exits.{status_of}
use Rattle.program_streams.specs.declared.exit.Exit.TheVariants.{Sound}
use Rattle.history_core.specs.Schedules.{IsFirstOverrun}
use Rattle.history_core.specs.declared.band.Band.{Band}
use Rattle.print_report.specs.Lines.{cell_lines}

-- the text of the report of a schedule, with the status of one that was played
abbrev pub printed : CellReport Band → Answer
printed r = record { text = cell_lines r; status = status_of Sound }

-- the answer to the schedule of a cell: the text of the report of its run, or the first step that has no operation
abbrev pub AnswersCell : CellSchedule Band → Result Answer Fault → Type 0
AnswersCell schedule (Ok answer) = (r : CellReport Band) × IsCellReport schedule r × (answer ≡ printed r)
AnswersCell schedule (Err (fault.Document refusal)) = ⊥
AnswersCell schedule (Err (fault.History why)) = ⊥
AnswersCell schedule (Err (fault.Lines why)) = ⊥
AnswersCell schedule (Err (fault.Schedule position)) = IsFirstOverrun (cell_span schedule ∷ []) position
AnswersCell schedule (Err fault.NoMemory) = ⊥
AnswersCell schedule (Err fault.NoThread) = ⊥
AnswersCell schedule (Err (fault.Undecided line)) = ⊥
