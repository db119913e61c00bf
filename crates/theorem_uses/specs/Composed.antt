-- Consequences of how a played board came about, term by term (this project's own).
use Rattle.std.specs.Prelude.{◌≡◌, ◌≢◌, ◌⊎◌, ℕ, ◌+◌, ◌-◌, ◌*◌, ◌<◌, ◌≤◌, true, false, List, [], ◌∷◌}
use Rattle.std.specs.Prelude.{◌++◌, length, slice_get, Option}
use Rattle.std.specs.Prelude.{None, Some, IsSome}
use Rattle.history_core.specs.declared.history.Op.{Op}
use Rattle.history_core.specs.declared.history.Kind.TheVariants.{Write, Read, Refused}
use Rattle.history_core.specs.Joined.{order_from, terms_from}
use Rattle.history_core.specs.Orders.{is_write, latest, times_of}
use Rattle.history_core.specs.Schedules.{IsOperation, IsPlayed, Span}
use Rattle.four_slot_core.specs.Accesses.{IsFreshRead, IsSameSlot}
use Rattle.history_core.specs.Registers.{IsBefore}
use Rattle.matrix_core.specs.Stamps.{greatest}
use Rattle.four_slot_core.specs.CellSlots.{IsOverSafeSlots}
use Rattle.four_slot_core.specs.Traces.{source_record}
use Rattle.matrix_core.specs.declared.stamp.Stamp.{Stamp}
use Rattle.matrix_core.specs.declared.stamp.Stamped.{Stamped}
use Rattle.matrix_core.specs.Choices.{Choice, ChoosesByKind, HasChoices, IsAtMost, IsEarlier}
use Rattle.matrix_core.specs.declared.schedule.MatrixTerm.{MatrixTerm}
use Rattle.matrix_core.specs.declared.schedule.BoardSchedule.{BoardSchedule}
use Rattle.matrix_core.specs.declared.schedule.BoardReport.{BoardReport}
use Rattle.matrix_core.specs.ByAccesses.{choice_at, chooses_at}
use Rattle.matrix_core.specs.Lines.{first_record, other}
use Rattle.matrix_core.specs.Listings.{IsInOrder}
use Rattle.matrix_core.specs.Runs.{board_span, CanPlay, step_count}
use Rattle.composed_play.specs.BoardReports.{BoardCameAbout, BoardPart, history_part, IsBoardPart, ListsSlots}
use Rattle.composed_play.specs.Boards.{cell_trace, column_accesses, IsBoardRun, noise_record, row_accesses}

module _ (R : Type 0) where
  -- the report of two terms is what they gave, one after the other, and the second opens with what the first left
  abbrev pub TwoTermsShow : Type 0
  TwoTermsShow = (s : BoardSchedule R) (r : BoardReport R) (a b : MatrixTerm R) → s.terms ≡ a ∷ b ∷ [] →
      BoardCameAbout s r → (p : BoardPart R) × (q : BoardPart R) × (next : R) × IsBoardPart 0 s.opening s.noise a p
      × (latest s.opening p.ops p.order ≡ Some next)
      × IsBoardPart (length a.steps) next s.noise b q × (r.history.ops ≡ p.ops ++ (q.ops ++ []))
      × (r.stamps ≡ p.stamps ++ (q.stamps ++ []))
      × (r.slots ≡ p.slots ++ (q.slots ++ [])) × (r.history.terms ≡ terms_from 0 (history_part p ∷ history_part q ∷ []))
      × (r.order ≡ order_from 0 (history_part p ∷ history_part q ∷ []))

  -- what a term gave is its operations, by a run of a board whose cells are clear, fresh and over safe
  -- slots, and by the law of choices
  abbrev pub PartsShow : Type 0
  PartsShow = (at : ℕ) (opening noise : R) (term : MatrixTerm R) (part : BoardPart R) →
      IsBoardPart at opening noise term part →
      (chosen : ℕ → ℕ → Stamped R) × (slot : ℕ → ℕ → ℕ → Option ℕ) × (choices : List (Choice R))
      × (part.limit ≡ term.limit)
      × IsPlayed at (board_span term) part.ops
      × IsBoardRun at (board_span term) opening noise part.ops part.stamps slot chosen
      × ListsSlots at (board_span term) part.ops slot part.slots
      × HasChoices opening term.limit part.ops part.stamps choices
      × IsInOrder part.ops part.stamps part.order
      × ((i j : ℕ) → IsOverSafeSlots (first_record opening) (noise_record noise) (chosen i)
      (cell_trace at (board_span term) opening noise chosen i j))
      × ((i j write read k m : ℕ) → other i write ≡ j → write + 1 < length term.plans → other j read ≡ i →
      read + 1 < length term.plans → (IsSameSlot (slot i k (length term.plans - 1 + write)) (slot j m read) →
      IsSome ((row_accesses at (board_span term) slot i write).at k 1) →
      IsSome ((column_accesses at (board_span term) slot j read).at m 3) →
      IsBefore ((row_accesses at (board_span term) slot i write).at k 2)
      ((column_accesses at (board_span term) slot j read).at m 3)
      ⊎ IsBefore ((column_accesses at (board_span term) slot j read).at m 4)
      ((row_accesses at (board_span term) slot i write).at k 1))
      × (IsSome ((column_accesses at (board_span term) slot j read).at m 4) → (n : ℕ)
      × IsFreshRead (row_accesses at (board_span term) slot i write)
      (column_accesses at (board_span term) slot j read) m n
      × (slice_get (cell_trace at (board_span term) opening noise chosen i j).answers m
      ≡ Some (source_record (first_record opening) (chosen i) n))))

  -- an operation that has chosen tells its stamp, saw the greatest of what the cells of its column answered and of its
  -- process's record before, and chose by its kind; one that hasn't tells none and isn't refused
  abbrev pub RunOfBoardShows : Type 0
  RunOfBoardShows = (at p k t : ℕ) (span : Span R) (opening noise : R) (ops : List (Op R))
      (stamps : List (Option Stamp)) (slot : ℕ → ℕ → ℕ → Option ℕ) (chosen : ℕ → ℕ → Stamped R) (op : Op R) →
      IsBoardRun at span opening noise ops stamps slot chosen → slice_get ops p ≡ Some op → IsOperation at span k op →
      (length stamps ≡ length ops)
      × (chooses_at at span 5 op.who k ≡ Some t → (slice_get stamps p ≡ Some (Some (chosen op.who k).stamp))
      × (op.kind ≡ Write → op.item ≡ Some (chosen op.who k).item)
      × ((answers : List (Stamped R)) × (length answers + 1 ≡ length span.plans)
      × ((read : ℕ) (answer : Stamped R) → slice_get answers read ≡ Some answer →
      slice_get (cell_trace at span opening noise chosen (other op.who read) op.who).answers k ≡ Some answer)
      × ChoosesByKind span.limit (choice_at chosen p k op) op.kind
      (greatest (source_record (first_record opening) (chosen op.who) k) answers).stamp
      (greatest (source_record (first_record opening) (chosen op.who) k) answers).item))
      × (chooses_at at span 5 op.who k ≡ None → (slice_get stamps p ≡ Some None) × (op.kind ≢ Refused))
      × ((end : ℕ) → op.ends ≡ Some end → op.item ≡ Some (chosen op.who k).item)
      × (op.ends ≡ None → op.kind ≢ Write → op.item ≡ None)

  -- the slots of a process's writes and reads are those that the cells chose
  abbrev pub SlotsOfBoardShow : Type 0
  SlotsOfBoardShow = (at i k access : ℕ) (span : Span R) (opening noise : R) (ops : List (Op R))
      (stamps : List (Option Stamp)) (slot : ℕ → ℕ → ℕ → Option ℕ) (chosen : ℕ → ℕ → Stamped R) →
      IsBoardRun at span opening noise ops stamps slot chosen →
      (slot i k (length span.plans - 1 + access)
      ≡ slice_get (cell_trace at span opening noise chosen i (other i access)).write_slots k)
      × (access + 1 < length span.plans →
      slot i k access ≡ slice_get (cell_trace at span opening noise chosen (other i access) i).read_slots k)

  -- a report has a row of slots for each operation, one of each access
  abbrev pub ListedSlotsShow : Type 0
  ListedSlotsShow = (at p k access : ℕ) (span : Span R) (ops : List (Op R)) (slot : ℕ → ℕ → ℕ → Option ℕ)
      (slots : List (List (Option ℕ))) (op : Op R) (row : List (Option ℕ)) → ListsSlots at span ops slot slots →
      slice_get ops p ≡ Some op → IsOperation at span k op →
      slice_get slots p ≡ Some row → (length slots ≡ length ops) × (length row ≡ 2 * (length span.plans - 1))
      × (access < length row → slice_get row access ≡ Some (slot op.who k access))

  -- an order by stamp lists each write that has chosen and each finished operation once, and nothing that hasn't
  -- chosen; it has smaller stamps before greater ones, and of one stamp the write first
  abbrev pub OrdersByStampShow : Type 0
  OrdersByStampShow = (ops : List (Op R)) (stamps : List (Option Stamp)) (order : List ℕ) (i j p q : ℕ)
      (a b : Op R) (s t : Stamp) → IsInOrder ops stamps order → slice_get order i ≡ Some p → slice_get ops p ≡ Some a →
      (p < length ops) × (slice_get stamps p ≡ Some None → times_of p order ≡ 0)
      × (slice_get stamps p ≡ Some (Some s) → is_write a.kind ≡ true → times_of p order ≡ 1)
      × (slice_get stamps p ≡ Some (Some s) → IsSome a.ends → times_of p order ≡ 1)
      × (i < j → slice_get order j ≡ Some q → slice_get ops q ≡ Some b → slice_get stamps p ≡ Some (Some s) →
      slice_get stamps q ≡ Some (Some t) →
      IsAtMost s t × (s ≡ t → is_write a.kind ≡ false → (is_write b.kind ≡ false) × (p ≤ q)))

  -- a schedule that can be played has a term, each of 2 to 16 processes whose steps are theirs, with a limit,
  -- and its steps can be counted
  abbrev pub PlayableShow : Type 0
  PlayableShow = (terms : List (MatrixTerm R)) (k step who : ℕ) (term : MatrixTerm R) → CanPlay terms →
      (1 ≤ length terms) × (step_count terms < 18446744073709551615)
      × (slice_get terms k ≡ Some term → (2 ≤ length term.plans) × (length term.plans ≤ 16) × (1 ≤ term.limit)
      × (term.limit ≤ 18446744073709551614) × (slice_get term.steps step ≡ Some who → who < length term.plans))

  -- the first choice of all is of the opening: a read chooses it, a write has tag 1, and no write is
  -- refused unless the limit is 0
  abbrev pub FirstChoiceShows : Type 0
  FirstChoiceShows = (opening : R) (limit : ℕ) (ops : List (Op R)) (stamps : List (Option Stamp)) (c : Choice R) →
      HasChoices opening limit ops stamps (c ∷ []) →
      (c.kind ≡ Read → (c.stamp ≡ record { tag = 0; writer = 0 }) × (c.item ≡ opening))
      × (c.kind ≡ Write → (0 < limit) × (c.stamp ≡ record { tag = 1; writer = c.who }))
      × (c.kind ≡ Refused → (limit ≤ 0) × (c.stamp ≡ record { tag = 0; writer = 0 }) × (c.item ≡ opening))
      × (IsEarlier ops c c → ⊥) × (c.who < 18446744073709551616)

  -- a read after a write chooses the write's record, if both are of one process or the write's operation had ended
  -- before; and none that precedes an earlier one comes after it
  abbrev pub SecondChoiceShows : Type 0
  SecondChoiceShows = (opening : R) (limit : ℕ) (ops : List (Op R)) (stamps : List (Option Stamp)) (c d : Choice R) →
      HasChoices opening limit ops stamps (c ∷ d ∷ []) → d.kind ≡ Write → c.kind ≡ Read →
      (d.who ≡ c.who → (c.stamp ≡ d.stamp) × (c.item ≡ d.item))
      × (IsEarlier ops d c → (c.stamp ≡ d.stamp) × (c.item ≡ d.item))
      × (IsEarlier ops c d → ⊥) × (d.stamp ≡ record { tag = 1; writer = d.who })

  -- each choice is that of the operation at its place, each told stamp and each finished operation
  -- has one, and no place has two
  abbrev pub ChoicesShow : Type 0
  ChoicesShow = (opening : R) (limit p : ℕ) (ops : List (Op R)) (stamps : List (Option Stamp)) (c d : Choice R) →
      HasChoices opening limit ops stamps (c ∷ d ∷ []) →
      ((op : Op R) × (slice_get ops c.place ≡ Some op) × (slice_get stamps c.place ≡ Some (Some c.stamp))
      × (op.who ≡ c.who)
      × (op.kind ≡ c.kind) × (c.kind ≡ Write → op.item ≡ Some c.item)
      × ((end : ℕ) → op.ends ≡ Some end → op.item ≡ Some c.item))
      × ((s : Stamp) → slice_get stamps p ≡ Some (Some s) → (c.place ≡ p) ⊎ (d.place ≡ p))
      × ((end : ℕ) (op : Op R) → slice_get ops p ≡ Some op → op.ends ≡ Some end → (c.place ≡ p) ⊎ (d.place ≡ p))
      × (c.place ≡ d.place → c ≡ d)

  -- the operation of an earlier choice had ended before that of the later one began
  abbrev pub EarlierShows : Type 0
  EarlierShows = (ops : List (Op R)) (c d : Choice R) → IsEarlier ops c d → (a : Op R) × (b : Op R) × (end : ℕ)
      × (slice_get ops c.place ≡ Some a) × (slice_get ops d.place ≡ Some b) × (a.ends ≡ Some end) × (end < b.starts)
