-- The printed lines of a report (this project's own).
use Rattle.std.specs.Prelude.{ℕ, ◌+◌, ◌++◌, List, [], ◌∷◌, take, codes, Bool, true, false, Option}
use Rattle.std.specs.Prelude.{Some, None, slice_get, unwrap_or}
use Rattle.std.specs.Fmt.{decimal}
use Rattle.std.specs.List.{flat_map}
use Rattle.history_core.specs.declared.band.Band.{Band}
use Rattle.history_core.specs.declared.history.History.{History}
use Rattle.history_core.specs.declared.history.Op.{Op}
use Rattle.history_core.specs.declared.history.Term.{Term}
use Rattle.matrix_core.specs.declared.schedule.BoardReport.{BoardReport}
use Rattle.matrix_core.specs.declared.schedule.MatrixReport.{MatrixReport}
use Rattle.matrix_core.specs.declared.stamp.Stamp.{Stamp}
use Rattle.print_report.specs.Lines.{cell_lines, entry_at, line_feed, lines_from, number_text, op_lines, order_text}
use Rattle.print_report.specs.declared.report.Counts.{Counts}
use Rattle.print_report.specs.declared.report.Report.{Report}
use Rattle.print_report.specs.declared.report.Report.TheVariants.{Cell, Matrix, Board, Race}

-- ---- played reports

abbrev pub term_line : ℕ → List ℕ
term_line number = codes "term " ++ decimal number ++ line_feed ∷ []

-- The lines of the operations from a place on; before the first operation of each term stands the term's line.
abbrev pub titled_lines : (ℕ → List ℕ) → List (Op Band) → ℕ → ℕ → List Term → List ℕ
titled_lines mark ops number place [] = lines_from mark ops place
titled_lines mark ops number place (term ∷ terms) =
    lines_from mark (take term.first ops) place ++ term_line number
    ++ titled_lines mark ops (number + 1) term.first terms

-- the lines of the operations of a history; titled, those of its terms between them
abbrev pub history_lines : (ℕ → List ℕ) → History Band → Bool → List ℕ
history_lines mark history false = op_lines mark 0 history.ops
history_lines mark history true = titled_lines mark history.ops 1 0 history.terms

-- tag and writer, or a dash for none
abbrev pub stamp_text : Option Stamp → List ℕ
stamp_text None = codes "-"
stamp_text (Some s) = decimal s.tag ++ codes "." ++ decimal s.writer

abbrev pub stamp_mark : List (Option Stamp) → ℕ → List ℕ
stamp_mark stamps place = codes "stamp " ++ stamp_text (entry_at stamps place)

-- the slots of the operation at a place, if it has any
abbrev pub slots_at : List (List (Option ℕ)) → ℕ → List (Option ℕ)
slots_at slots place = unwrap_or (slice_get slots place) []

abbrev pub slots_text : List (Option ℕ) → List ℕ
slots_text slots = flat_map (λ slot. codes " " ++ number_text slot) slots

-- the stamp, and the slot of each access
unfoldable pub board_mark : List (Option Stamp) → List (List (Option ℕ)) → ℕ → List ℕ
board_mark stamps slots place = stamp_mark stamps place ++ codes ", slots" ++ slots_text (slots_at slots place)

abbrev pub matrix_text : MatrixReport Band → Bool → List ℕ
matrix_text r titled = history_lines (stamp_mark r.stamps) r.history titled ++ order_text r.order

abbrev pub board_text : BoardReport Band → Bool → List ℕ
board_text r titled = history_lines (board_mark r.stamps r.slots) r.history titled ++ order_text r.order

-- ---- races

unfoldable pub task_line : ℕ → Counts → List ℕ
task_line task counts = codes "task " ++ decimal task ++ codes ": " ++ decimal counts.writes ++ codes " writes, "
    ++ decimal counts.reads ++ codes " reads, " ++ decimal counts.refused ++ codes " refused\n"

-- a line for each task, the first of them with this number
abbrev pub task_lines : ℕ → List Counts → List ℕ
task_lines task [] = []
task_lines task (counts ∷ rest) = task_line task counts ++ task_lines (task + 1) rest

abbrev pub broken_line : ℕ → ℕ → List ℕ
broken_line task call = codes "origin: broken at task " ++ decimal task ++ codes " call "
    ++ decimal call ++ line_feed ∷ []

-- whether each record has its origin, or the task and the call of the first that has none
abbrev pub origin_line : Option (ℕ × ℕ) → List ℕ
origin_line None = codes "origin: sound\n"
origin_line (Some broken) = broken_line broken.0 broken.1

abbrev pub race_text : List Counts → Option (ℕ × ℕ) → List ℕ
race_text tasks broken = task_lines 0 tasks ++ origin_line broken

abbrev pub text_of : Report → List ℕ
text_of (Cell r) = cell_lines r
text_of (Matrix r titled) = matrix_text r titled
text_of (Board r titled) = board_text r titled
text_of (Race tasks broken) = race_text tasks broken
