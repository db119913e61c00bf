-- The answer to a document: its picture with its status, or the fault (this project's own).
use Rattle.std.specs.Prelude.{◌≡◌, ℕ, List, [], ◌∷◌, Result, Ok, Err}
use Rattle.program_streams.specs.Exits.{status_of}
use Rattle.program_streams.specs.declared.exit.Exit.{Exit}
use Rattle.program_streams.specs.declared.exit.Exit.TheVariants.{Sound, Unsound}
use Rattle.program_runs.specs.Answers.{AnswersReading}
use Rattle.program_runs.specs.declared.fault.Answer.{Answer}
use Rattle.program_runs.specs.declared.fault.Fault.{Fault}
use Rattle.program_runs.specs.declared.fault.Fault.TheVariants as fault
use Rattle.four_slot_play.specs.CellReports.{IsCellReport}
use Rattle.four_slot_core.specs.Play.{cell_span}
use Rattle.four_slot_core.specs.declared.schedule.CellReport.{CellReport}
use Rattle.four_slot_core.specs.declared.schedule.CellSchedule.{CellSchedule}
use Rattle.history_core.specs.Schedules.{HasOperations, IsFirstOverrun}
use Rattle.history_core.specs.declared.band.Band.{Band}
use Rattle.history_core.specs.declared.history.History.{History}
use Rattle.read_history.specs.Check.{check_document}
use Rattle.read_document.specs.Document.{value_of}
use Rattle.read_document.specs.Refusals.{◌>>=◌}
use Rattle.read_history.specs.declared.document.CheckDocument.{CheckDocument}
use Rattle.read_document.specs.declared.refusal.DocError.{DocError}
use Rattle.read_document.specs.declared.refusal.DocError.TheVariants as doc
use Rattle.composed_play.specs.BoardReports.{IsBoardReport}
use Rattle.matrix_core.specs.Runs.{board_spans}
use Rattle.matrix_play.specs.MatrixReports.{IsMatrixReport}
use Rattle.matrix_core.specs.Runs.{spans_of}
use Rattle.matrix_core.specs.declared.schedule.BoardReport.{BoardReport}
use Rattle.matrix_core.specs.declared.schedule.BoardSchedule.{BoardSchedule}
use Rattle.matrix_core.specs.declared.schedule.MatrixReport.{MatrixReport}
use Rattle.matrix_core.specs.declared.schedule.MatrixSchedule.{MatrixSchedule}
use Rattle.read_log.specs.Logs.{IsLogFault, IsLogSearch}
use Rattle.read_log.specs.Log.{CanBeSearched, lines_in, log_document}
use Rattle.history_core.specs.declared.reason.Search.{Search}
use Rattle.print_picture.specs.Picture.{picture_of}
use Rattle.print_picture.specs.declared.scene.Finding.{Finding}
use Rattle.print_picture.specs.declared.scene.Finding.TheVariants.{Lawful, Broken, NoOrder}
use Rattle.print_picture.specs.declared.scene.Scene.{Scene}
use Rattle.read_schedule.specs.Document.{schedule_document}
use Rattle.read_schedule.specs.Players.{CanBePlayed}
use Rattle.read_schedule.specs.declared.document.ScheduleDocument.{ScheduleDocument}
use Rattle.read_schedule.specs.declared.document.ScheduleDocument.TheVariants.{Cell, Matrix, Board}
use Rattle.serde_json.specs.Data.{Data}
use Rattle.picture_answers.specs.Scenes.{ShowsBoard, ShowsCell, ShowsCheck, ShowsLog, ShowsMatrix}
use Rattle.picture_answers.specs.declared.drawings.Shown.{Shown}
use Rattle.picture_answers.specs.declared.drawings.Shown.TheVariants as shown

abbrev pub of_schedule : Result ScheduleDocument DocError → Result Shown DocError
of_schedule (Ok schedule) = Ok (shown.Schedule schedule)
of_schedule (Err refusal) = Err refusal

-- a log with its lines, or where the document is refused for its kind, a schedule
abbrev pub or_schedule : Result (History Band) DocError → List ℕ → Result ScheduleDocument DocError
    → Result Shown DocError
or_schedule (Ok log) lines other = Ok (shown.Log log lines)
or_schedule (Err doc.Kind) lines other = of_schedule other
or_schedule (Err refusal) lines other = Err refusal

-- a history with its order, or where the document is refused for its kind, what another kind stands for
abbrev pub or_other : Result CheckDocument DocError → Result Shown DocError → Result Shown DocError
or_other (Ok document) other = Ok (shown.Check document)
or_other (Err doc.Kind) other = other
or_other (Err refusal) other = Err refusal

abbrev pub other_in : Data → Result Shown DocError
other_in d = or_schedule (log_document d) (lines_in d) (schedule_document d)

-- a document of a kind that one of the commands `check`, `order` and `play` takes
abbrev pub shown_in : Data → Result Shown DocError
shown_in d = or_other (check_document d) (other_in d)

unfoldable pub document_of : List ℕ → Result Shown DocError
document_of bytes = do
  d ← value_of bytes
  shown_in d

-- its log can be searched, or its schedule played
abbrev pub CanBeShown : Shown → Type 0
CanBeShown (shown.Check document) = Unit {0}
CanBeShown (shown.Log log lines) = CanBeSearched log
CanBeShown (shown.Schedule document) = CanBePlayed document

-- how a run ends that shows what was found
abbrev pub exit_of : Finding → Exit
exit_of Lawful = Sound
exit_of (Broken broken) = Unsound
exit_of (NoOrder reason) = Unsound

abbrev pub drawn : Scene → Answer
drawn scene = record { text = picture_of scene; status = status_of (exit_of scene.finding) }

-- the answer to a history and an order of it
abbrev pub DrawsCheck : CheckDocument → Result Answer Fault → Type 0
DrawsCheck document (Ok answer) = (scene : Scene) × ShowsCheck document.history document.order scene
    × (answer ≡ drawn scene)
DrawsCheck document (Err fault) = ⊥

-- the answer to a log: the picture of the order that was found, or of the reason why there is none;
-- or why no order was looked for
abbrev pub AnswersLog : History Band → List ℕ → Result Answer Fault → Type 0
AnswersLog log lines (Ok answer) =
    (search : Search) × IsLogSearch log search × (scene : Scene) × ShowsLog log lines search scene
    × (answer ≡ drawn scene)
AnswersLog log lines (Err fault) = IsLogFault log fault

-- the answer to the schedule of a cell: the picture of the report of its run, or the first step that has no operation
abbrev pub DrawsCell : CellSchedule Band → Result Answer Fault → Type 0
DrawsCell schedule (Ok answer) =
    (r : CellReport Band) × IsCellReport schedule r × (scene : Scene) × ShowsCell schedule r scene
    × (answer ≡ drawn scene)
DrawsCell schedule (Err (fault.Document refusal)) = ⊥
DrawsCell schedule (Err (fault.History why)) = ⊥
DrawsCell schedule (Err (fault.Lines why)) = ⊥
DrawsCell schedule (Err (fault.Schedule position)) = IsFirstOverrun (cell_span schedule ∷ []) position
DrawsCell schedule (Err fault.NoMemory) = ⊥
DrawsCell schedule (Err fault.NoThread) = ⊥
DrawsCell schedule (Err (fault.Undecided line)) = ⊥

-- the answer to the schedule of a matrix, likewise
abbrev pub DrawsMatrix : MatrixSchedule Band → Result Answer Fault → Type 0
DrawsMatrix schedule (Ok answer) =
    (r : MatrixReport Band) × HasOperations (spans_of schedule.terms) × IsMatrixReport schedule r
    × (scene : Scene) × ShowsMatrix r scene × (answer ≡ drawn scene)
DrawsMatrix schedule (Err (fault.Document refusal)) = ⊥
DrawsMatrix schedule (Err (fault.History why)) = ⊥
DrawsMatrix schedule (Err (fault.Lines why)) = ⊥
DrawsMatrix schedule (Err (fault.Schedule position)) = IsFirstOverrun (spans_of schedule.terms) position
DrawsMatrix schedule (Err fault.NoMemory) = ⊥
DrawsMatrix schedule (Err fault.NoThread) = ⊥
DrawsMatrix schedule (Err (fault.Undecided line)) = ⊥

-- the answer to the schedule of a composed board, likewise
abbrev pub DrawsBoard : BoardSchedule Band → Result Answer Fault → Type 0
DrawsBoard schedule (Ok answer) =
    (r : BoardReport Band) × HasOperations (board_spans schedule.terms) × IsBoardReport schedule r
    × (scene : Scene) × ShowsBoard schedule r scene × (answer ≡ drawn scene)
DrawsBoard schedule (Err (fault.Document refusal)) = ⊥
DrawsBoard schedule (Err (fault.History why)) = ⊥
DrawsBoard schedule (Err (fault.Lines why)) = ⊥
DrawsBoard schedule (Err (fault.Schedule position)) = IsFirstOverrun (board_spans schedule.terms) position
DrawsBoard schedule (Err fault.NoMemory) = ⊥
DrawsBoard schedule (Err fault.NoThread) = ⊥
DrawsBoard schedule (Err (fault.Undecided line)) = ⊥

-- the answer to a schedule
abbrev pub DrawsSchedule : ScheduleDocument → Result Answer Fault → Type 0
DrawsSchedule (Cell schedule) reply = DrawsCell schedule reply
DrawsSchedule (Matrix schedule titled) reply = DrawsMatrix schedule reply
DrawsSchedule (Board schedule titled) reply = DrawsBoard schedule reply

-- the answer to what a document stands for
abbrev pub Answers : Shown → Result Answer Fault → Type 0
Answers (shown.Check document) reply = DrawsCheck document reply
Answers (shown.Log log lines) reply = AnswersLog log lines reply
Answers (shown.Schedule document) reply = DrawsSchedule document reply

-- the answer to the bytes of a document
abbrev pub IsPictureAnswer : List ℕ → Result Answer Fault → Type 0
IsPictureAnswer bytes reply = AnswersReading Answers (document_of bytes) reply
