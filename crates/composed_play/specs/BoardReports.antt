-- The report of a composed board: what each term gave, one after the other, and what is promised of it. A cell of the
-- board is clear and fresh by the slots of the report and the positions of the schedule (L. Lamport, On Interprocess
-- Communication, Parts I and II, Distributed Computing 1, 1986; H. Simpson, Four-slot fully asynchronous communication
-- mechanism, IEE Proceedings E, 1990). The composition is this project's own.
use Rattle.std.specs.Prelude.{◌≡◌, ℕ, ◌+◌, ◌-◌, ◌*◌, ◌<◌, List, [], ◌∷◌, ◌++◌, length, slice_get, Option, Some, IsSome}
use Rattle.history_core.specs.declared.history.Op.{Op}
use Rattle.history_core.specs.declared.wish.PlayError.{PlayError}
use Rattle.history_core.specs.declared.wish.PlayError.TheVariants.{NoMemory, TooManySteps}
use Rattle.history_core.specs.Joined.{ops_of, order_from, Part, terms_from}
use Rattle.history_core.specs.Orders.{IsAtomicOrder, latest, RefusesLawfully}
use Rattle.history_core.specs.Schedules.{HasOperations, HasShape, IsFirstOverrun, IsOperation, IsPlayed, Span}
use Rattle.four_slot_core.specs.Accesses.{IsClear, IsFreshRead}
use Rattle.four_slot_core.specs.CellSlots.{IsOverSafeSlots}
use Rattle.four_slot_core.specs.Traces.{source_record}
use Rattle.matrix_core.specs.declared.stamp.Stamp.{Stamp}
use Rattle.matrix_core.specs.declared.stamp.Stamped.{Stamped}
use Rattle.matrix_core.specs.Choices.{Choice, HasChoices}
use Rattle.matrix_core.specs.declared.schedule.MatrixTerm.{MatrixTerm}
use Rattle.matrix_core.specs.declared.schedule.BoardSchedule.{BoardSchedule}
use Rattle.matrix_core.specs.declared.schedule.BoardReport.{BoardReport}
use Rattle.matrix_core.specs.Lines.{first_record, other}
use Rattle.matrix_core.specs.Listings.{IsInOrder}
use Rattle.matrix_core.specs.Runs.{board_span, board_spans}
use Rattle.composed_play.specs.Boards.{cell_trace, column_accesses, IsBoardRun, noise_record, row_accesses}

module _ {R : Type 0} where
  -- the slots that are listed for each operation, those of its column before those of its row
  pub record ListsSlots (at : ℕ) (span : Span R) (ops : List (Op R)) (slot : ℕ → ℕ → ℕ → Option ℕ)
      (slots : List (List (Option ℕ))) : Type 0 where
    pub long : length slots ≡ length ops
    pub each : (p k : ℕ) (op : Op R) (row : List (Option ℕ)) → slice_get ops p ≡ Some op → IsOperation at span k op →
        slice_get slots p ≡ Some row
        → (length row ≡ 2 * (length span.plans - 1))
        × ((access : ℕ) → access < length row → slice_get row access ≡ Some (slot op.who k access))

-- what one term gave: its operations with their stamps and slots, and an order of them by their places in the term
pub record BoardPart (R : Type 0) : Type 0 where
  pub limit : ℕ
  pub ops : List (Op R)
  pub stamps : List (Option Stamp)
  pub slots : List (List (Option ℕ))
  pub order : List ℕ

module _ {R : Type 0} where
  -- a term's part came about so, where the term begins at the position `at` and opens with this record: its operations
  -- are the schedule's; `chosen i k` is what operation k of process i chose, and `slot i k` has the slots of its
  -- accesses, by a run of the board; each cell is clear and over safe slots, and fresh, which is so of a read with the
  -- number of the write whose record it answers; the choices follow the law of choices, and the order is by stamp
  pub record IsBoardPart (at : ℕ) (opening noise : R) (term : MatrixTerm R) (part : BoardPart R) : Type 0 where
    pub limit : part.limit ≡ term.limit
    pub played : IsPlayed at (board_span term) part.ops
    pub chosen : ℕ → ℕ → Stamped R
    pub slot : ℕ → ℕ → ℕ → Option ℕ
    pub run : IsBoardRun at (board_span term) opening noise part.ops part.stamps slot chosen
    pub slots : ListsSlots at (board_span term) part.ops slot part.slots
    pub clear : (i j write read : ℕ) → other i write ≡ j → write + 1 < length term.plans → other j read ≡ i →
        read + 1 < length term.plans
        → IsClear (row_accesses at (board_span term) slot i write) (column_accesses at (board_span term) slot j read)
    pub fresh : (i j write read : ℕ) → other i write ≡ j → write + 1 < length term.plans → other j read ≡ i →
        read + 1 < length term.plans
        → (m : ℕ) → IsSome ((column_accesses at (board_span term) slot j read).at m 4)
        → (n : ℕ) × IsFreshRead (row_accesses at (board_span term) slot i write)
        (column_accesses at (board_span term) slot j read) m n
        × (slice_get (cell_trace at (board_span term) opening noise chosen i j).answers m
        ≡ Some (source_record (first_record opening) (chosen i) n))
    pub safe : (i j : ℕ) →
        IsOverSafeSlots (first_record opening) (noise_record noise) (chosen i)
        (cell_trace at (board_span term) opening noise chosen i j)
    pub choices : List (Choice R)
    pub chose : HasChoices opening term.limit part.ops part.stamps choices
    pub order : IsInOrder part.ops part.stamps part.order

  -- the parts of these terms: each later term opens with the latest record of the order of the one before
  abbrev pub AreBoardParts : ℕ → R → R → List (MatrixTerm R) → List (BoardPart R) → Type 0
  AreBoardParts at opening noise [] [] = Unit {0}
  AreBoardParts at opening noise [] (part ∷ parts) = ⊥
  AreBoardParts at opening noise (term ∷ terms) [] = ⊥
  AreBoardParts at opening noise (term ∷ terms) (part ∷ parts) =
      IsBoardPart at opening noise term part
      × ((next : R) × (latest opening part.ops part.order ≡ Some next) ×
      AreBoardParts (at + length term.steps) next noise terms parts)

  -- a part of the history
  abbrev pub history_part : BoardPart R → Part R
  history_part part = record { limit = part.limit; ops = part.ops; order = part.order }

  abbrev pub history_parts : List (BoardPart R) → List (Part R)
  history_parts [] = []
  history_parts (part ∷ parts) = history_part part ∷ history_parts parts

  abbrev pub board_stamps : List (BoardPart R) → List (Option Stamp)
  board_stamps [] = []
  board_stamps (part ∷ parts) = part.stamps ++ board_stamps parts

  abbrev pub board_slots : List (BoardPart R) → List (List (Option ℕ))
  board_slots [] = []
  board_slots (part ∷ parts) = part.slots ++ board_slots parts

  -- how a report came about: it is what the terms gave, one after the other
  pub record BoardCameAbout (schedule : BoardSchedule R) (report : BoardReport R) : Type 0 where
    pub parts : List (BoardPart R)
    pub each : AreBoardParts 0 schedule.opening schedule.noise schedule.terms parts
    pub terms : report.history.terms ≡ terms_from 0 (history_parts parts)
    pub ops : report.history.ops ≡ ops_of (history_parts parts)
    pub stamps : report.stamps ≡ board_stamps parts
    pub slots : report.slots ≡ board_slots parts
    pub order : report.order ≡ order_from 0 (history_parts parts)

  -- all that is promised of a schedule's report: what it means, and how it came about
  pub record IsBoardReport (schedule : BoardSchedule R) (report : BoardReport R) : Type 0 where
    pub opening : report.history.opening ≡ schedule.opening
    pub shape : HasShape (board_spans schedule.terms) report.history.terms report.history.ops
    pub atomic : IsAtomicOrder (λ x y. x ≡ y) schedule.opening report.history.ops report.order
    pub refusals : RefusesLawfully report.history.terms report.history.ops report.order
    pub run : BoardCameAbout schedule report

  -- a schedule is refused at the first step of a process that has no operation left, or, where each step has one, for
  -- want of memory
  abbrev pub IsBoardRefused : List (MatrixTerm R) → PlayError → Type 0
  IsBoardRefused terms NoMemory = HasOperations (board_spans terms)
  IsBoardRefused terms (TooManySteps position) = IsFirstOverrun (board_spans terms) position
