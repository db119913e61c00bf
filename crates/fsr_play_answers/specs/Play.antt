-- The answer to a document of a schedule: the text of the report of its run, or the fault (this project's own).
use Rattle.std.specs.Prelude.{◌≡◌, ℕ, Bool, List, Result, Ok, Err}
use Rattle.program_streams.specs.Exits.{status_of}
use Rattle.program_streams.specs.declared.exit.Exit.TheVariants.{Sound}
use Rattle.program_runs.specs.Answers.{AnswersReading}
use Rattle.program_runs.specs.declared.fault.Answer.{Answer}
use Rattle.program_runs.specs.declared.fault.Fault.{Fault}
use Rattle.program_runs.specs.declared.fault.Fault.TheVariants as fault
use Rattle.fsr_play_answers.specs.Cells.{AnswersCell}
use Rattle.history_core.specs.Schedules.{HasOperations, IsFirstOverrun, Span}
use Rattle.history_core.specs.declared.band.Band.{Band}
use Rattle.composed_play.specs.BoardReports.{IsBoardReport}
use Rattle.matrix_core.specs.Runs.{board_spans, spans_of}
use Rattle.matrix_play.specs.MatrixReports.{IsMatrixReport}
use Rattle.matrix_core.specs.declared.schedule.BoardSchedule.{BoardSchedule}
use Rattle.matrix_core.specs.declared.schedule.MatrixSchedule.{MatrixSchedule}
use Rattle.print_report.specs.Text.{text_of}
use Rattle.print_report.specs.declared.report.Report.{Report}
use Rattle.print_report.specs.declared.report.Report.TheVariants as report
use Rattle.read_schedule.specs.Document.{schedule_of}
use Rattle.read_schedule.specs.declared.document.ScheduleDocument.{ScheduleDocument}
use Rattle.read_schedule.specs.declared.document.ScheduleDocument.TheVariants.{Cell, Matrix, Board}

-- the text of the report of a schedule, with the status of one that was played
abbrev pub printed : Report → Answer
printed r = record { text = text_of r; status = status_of Sound }

-- the answer to a schedule with these spans: the text of a report that is made as it should be, or the
-- first step that has no operation
abbrev pub AnswersTerms : {Made : Type 0} → List (Span Band) → (Made → Type 0) → (Made → Report) →
    Result Answer Fault → Type 0
AnswersTerms {Made} spans IsMade told (Ok answer) = (r : Made) × HasOperations spans × IsMade r
    × (answer ≡ printed (told r))
AnswersTerms spans IsMade told (Err (fault.Document refusal)) = ⊥
AnswersTerms spans IsMade told (Err (fault.History why)) = ⊥
AnswersTerms spans IsMade told (Err (fault.Lines why)) = ⊥
AnswersTerms spans IsMade told (Err (fault.Schedule position)) = IsFirstOverrun spans position
AnswersTerms spans IsMade told (Err fault.NoMemory) = ⊥
AnswersTerms spans IsMade told (Err fault.NoThread) = ⊥
AnswersTerms spans IsMade told (Err (fault.Undecided line)) = ⊥

-- the answer to the schedule of a matrix; titled, where its terms are told
abbrev pub AnswersMatrix : MatrixSchedule Band → Bool → Result Answer Fault → Type 0
AnswersMatrix schedule titled reply = AnswersTerms (spans_of schedule.terms) (IsMatrixReport schedule)
    (λ r. report.Matrix r titled) reply

-- the answer to the schedule of a composed board
abbrev pub AnswersBoard : BoardSchedule Band → Bool → Result Answer Fault → Type 0
AnswersBoard schedule titled reply = AnswersTerms (board_spans schedule.terms) (IsBoardReport schedule)
    (λ r. report.Board r titled) reply

-- the answer to what a document of a schedule stands for
abbrev pub AnswersSchedule : ScheduleDocument → Result Answer Fault → Type 0
AnswersSchedule (Cell schedule) reply = AnswersCell schedule reply
AnswersSchedule (Matrix schedule titled) reply = AnswersMatrix schedule titled reply
AnswersSchedule (Board schedule titled) reply = AnswersBoard schedule titled reply

-- the answer of the command `play` to the bytes of a document
abbrev pub IsPlayAnswer : List ℕ → Result Answer Fault → Type 0
IsPlayAnswer bytes reply = AnswersReading AnswersSchedule (schedule_of bytes) reply
