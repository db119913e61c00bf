-- The slot accesses of a schedule, by its positions and by the slots of its report (H. Simpson, Four-slot fully
-- asynchronous communication mechanism, IEE Proceedings E, 1990): a write is in its slot from its second event to its
-- third, a read from its fourth to its fifth. Events of an access are counted from 0.
use Rattle.std.specs.Prelude.{ℕ, ◌≡◌, ◌≤◌, ◌+◌, ◌-◌, ◌*◌, List, [], ◌∷◌, ◌++◌, length, max, take, drop}
use Rattle.std.specs.Prelude.{get_or, slice_get, Option, None}
use Rattle.std.specs.Prelude.{Some, nat_eq, nat_le, nat_lt, zero, suc, if◌then◌else◌}
use Rattle.std.specs.List.{fold}
use Rattle.four_slot_core.specs.Play.{cell_span}
use Rattle.four_slot_core.specs.declared.schedule.CellSchedule.{CellSchedule}
use Rattle.four_slot_core.specs.declared.schedule.Turn.{Turn}
use Rattle.four_slot_core.specs.declared.schedule.Turn.TheVariants.{Writer, Reader}
use Rattle.history_core.specs.Others.{other}
use Rattle.history_core.specs.Schedules.{Span, access_at}
use Rattle.history_core.specs.declared.band.Band.{Band}
use Rattle.history_core.specs.declared.history.Kind.{Kind}
use Rattle.history_core.specs.declared.history.Kind.TheVariants.{Write, Read}
use Rattle.history_core.specs.declared.history.Op.{Op}
use Rattle.history_core.specs.declared.history.Term.{Term}
use Rattle.matrix_core.specs.Runs.{board_span}
use Rattle.matrix_core.specs.declared.schedule.MatrixTerm.{MatrixTerm}
use Rattle.print_report.specs.Lines.{entry_at}
use Rattle.picture_shapes.specs.declared.visit.Visit.{Visit}

-- ---- one access

-- the positions of one process's events, as `access_at` of a schedule has them: of its operation k the event number e
abbrev pub Positions : Type 0
Positions = ℕ → ℕ → Option ℕ

-- the same, where these are the positions of all its steps, and each operation has so many events
abbrev pub events_in : List ℕ → ℕ → Positions
events_in steps events k e = slice_get steps (k * events + e)

abbrev pub kind_by : Turn → Kind
kind_by Writer = Write
kind_by Reader = Read

-- an access is there where its slot is chosen and it has entered it
abbrev pub visit_of : Turn → ℕ → Option ℕ → Option ℕ → Option ℕ → List Visit
visit_of turn lane None starts ends = []
visit_of turn lane (Some slot) None ends = []
visit_of turn lane (Some slot) (Some starts) ends =
    record { lane = lane; slot = slot; kind = kind_by turn; starts = starts; ends = ends } ∷ []

-- the event at which an access enters its slot; it leaves it at the next
abbrev pub enters : Turn → ℕ
enters Writer = 1
enters Reader = 3

-- access number `access` of operation k
abbrev pub access_visits : Positions → ℕ → ℕ → ℕ → Turn → Option ℕ → List Visit
access_visits at k access lane turn slot =
    visit_of turn lane slot (at k (5 * access + enters turn)) (at k (5 * access + enters turn + 1))

-- ---- a cell: process 0 writes it, and process 1 reads it

-- how many operations the process has made after this one
abbrev pub made_after : ℕ → ℕ → Op Band → ℕ
made_after who k op = if nat_eq op.who who then k + 1 else k

abbrev pub side_visits : Positions → ℕ → Turn → List (Option ℕ) → ℕ → ℕ → List (Op Band) → List Visit
side_visits at who turn slots k place [] = []
side_visits at who turn slots k place (op ∷ ops) =
    (if nat_eq op.who who then access_visits at k 0 2 turn (entry_at slots place) else [])
    ++ side_visits at who turn slots (made_after who k op) (place + 1) ops

-- the first lane of the slots is lane 2
abbrev pub cell_visits : CellSchedule Band → List (Op Band) → List (Option ℕ) → List Visit
cell_visits schedule ops slots =
    side_visits (access_at 0 (cell_span schedule) 0) 0 Writer slots 0 0 ops
    ++ side_visits (access_at 0 (cell_span schedule) 1) 1 Reader slots 0 0 ops

-- ---- a board of `wide` processes at most, each cell with a lane below the lanes of the processes

-- the number of process j among the others of process i
abbrev pub seat : ℕ → ℕ → ℕ
seat i j = if nat_lt j i then j else j - 1

-- the lane of the cell that process i writes and process j reads
abbrev pub cell_lane : ℕ → ℕ → ℕ → ℕ
cell_lane wide i j = wide + i * (wide - 1) + seat i j

-- of n processes, access number `access` of an operation of process `who`: the reads of its
-- column, then the writes of its row
abbrev pub access_turn : ℕ → ℕ → Turn
access_turn n access = if nat_lt (access + 1) n then Reader else Writer

abbrev pub access_lane : ℕ → ℕ → ℕ → ℕ → ℕ
access_lane wide n who access =
    if nat_lt (access + 1) n then cell_lane wide (other who access) who
    else cell_lane wide who (other who (access + 1 - n))

abbrev pub row_visits : Positions → ℕ → ℕ → ℕ → ℕ → ℕ → List (Option ℕ) → List Visit
row_visits at k wide n who access [] = []
row_visits at k wide n who access (slot ∷ slots) =
    access_visits at k access (access_lane wide n who access) (access_turn n access) slot
    ++ row_visits at k wide n who (access + 1) slots

abbrev pub own_visits : Positions → ℕ → ℕ → ℕ → List (List (Option ℕ)) → ℕ → ℕ → List (Op Band) → List Visit
own_visits at wide n who rows k place [] = []
own_visits at wide n who rows k place (op ∷ ops) =
    (if nat_eq op.who who then row_visits at k wide n who 0 (get_or rows place []) else [])
    ++ own_visits at wide n who rows (made_after who k op) (place + 1) ops

-- the first processes of a term that begins at the position `at`
abbrev pub term_visits : ℕ → Span Band → ℕ → List (List (Option ℕ)) → List (Op Band) → ℕ → List Visit
term_visits at span wide rows ops zero = []
term_visits at span wide rows ops (suc who) =
    term_visits at span wide rows ops who ++ own_visits (access_at at span who) wide
    (length span.plans) who rows 0 0 ops

-- the place of a term's first operation, where `ops` is the number of all operations
abbrev pub first_of : ℕ → Option Term → ℕ
first_of ops None = ops
first_of ops (Some term) = term.first

abbrev pub ops_between : {T : Type 0} → ℕ → ℕ → List T → List T
ops_between from to ops = take (to - from) (drop from ops)

abbrev pub first_in : List Term → List (Op Band) → ℕ → ℕ
first_in marks ops t = first_of (length ops) (slice_get marks t)

abbrev pub terms_visits : ℕ → List Term → List (Op Band) → List (List (Option ℕ)) → ℕ → ℕ →
    List (MatrixTerm Band) → List Visit
terms_visits wide marks ops rows at t [] = []
terms_visits wide marks ops rows at t (term ∷ terms) =
    term_visits at (board_span term) wide (drop (first_in marks ops t) rows)
    (ops_between (first_in marks ops t) (first_in marks ops (t + 1)) ops) (length term.plans)
    ++ terms_visits wide marks ops rows (at + length term.steps) (t + 1) terms

-- ---- where the cells fit: where no term has more than 4 processes

abbrev pub widest : List (MatrixTerm Band) → ℕ
widest terms = fold (λ n term. max n (length term.plans)) 0 terms

abbrev pub board_visits : List (MatrixTerm Band) → List Term → List (Op Band) → List (List (Option ℕ)) → List Visit
board_visits terms marks ops rows = if nat_le (widest terms) 4
    then terms_visits (widest terms) marks ops rows 0 0 terms else []

abbrev pub AllFit : List (MatrixTerm Band) → Type 0
AllFit terms = (t : ℕ) (term : MatrixTerm Band) → slice_get terms t ≡ Some term →
    (1 ≤ length term.plans) × (length term.plans ≤ 4)
