-- The cells of a composed board are the traces of their steps: by induction over the steps of the term. Each step is one event of
-- one cell, and the progress of its process says which. Here: what is kept, and what stays through a step.
use Rattle.std.proofs.Common.{◌≡◌, ◌≢◌, ℕ, suc, ◌+◌, ◌-◌, ◌*◌, ◌/◌, ◌%◌, ◌<◌, ◌≤◌, List, [], ◌∷◌, ◌++◌, length, set, slice_get, None, Some}
use Rattle.std.proofs.Common.{true, false, sym, subst, ◌∙◌, ap, arith, ◌⊎◌, inl, inr}
use Rattle.std.specs.Prelude.{nat_eq, if◌then◌else◌}
use Rattle.std.proofs.lemmas.Bool.{cases_eq}
use Rattle.std.proofs.lemmas.Nat.{div-add-mod'}
use Rattle.history_core.proofs.Played.{same_operation_number}
use Rattle.history_core.proofs.Positions.{positions_length, steps_mine, steps_other}
use Rattle.history_core.specs.Schedules.{planned, positions, Span, steps_of}
use Rattle.four_slot_core.specs.declared.schedule.Turn.{Turn}
use Rattle.four_slot_core.specs.declared.schedule.Turn.TheVariants.{Writer, Reader}
use Rattle.four_slot_core.specs.declared.state.State.{State}
use Rattle.four_slot_core.specs.Traces.{moments_of, source_record, then_step, Trace, trace}
use Rattle.four_slot_core.proofs.traces.Counts.{IsCounted, left, made}
use Rattle.four_slot_core.proofs.traces.Laws.{moments_of_rise, traces_counted}
use Rattle.matrix_core.specs.declared.stamp.Stamped.{Stamped}
use Rattle.matrix_core.specs.declared.progress.Progress.{Progress}
use Rattle.matrix_core.specs.declared.progress.Outcome.{Outcome}
use Rattle.matrix_core.specs.Lines.{cell_place, choice, first_record, other}
use Rattle.matrix_core.specs.Stamps.{greatest}
use Rattle.composed_play.specs.BoardEvents.{Board, board_size}
use Rattle.composed_play.specs.Boards.{Event, event_after, events_after, noise_record, turn_in}
use Rattle.composed_play.proofs.boards.Cells.{cell_more, is_reader, is_writer, reader_turn, rises_from_first, side_fives, writer_turn}
use Rattle.matrix_core.proofs.lists.Elements.{get_set_same, get_unset}
use Rattle.matrix_core.proofs.lines.Others.{place_inside, same_writer}
use Rattle.matrix_core.proofs.lists.Elements.{not_same, same}
use Rattle.composed_play.proofs.boards.Stages.{on, on_answers, on_reads, on_writes, small_left, small_made, trace_on}
use Rattle.composed_play.proofs.boards.CellTurns.{reader_means, same_reader, writer_means}

module _ {R : Type 0} (at : ℕ) (span : Span R) (opening noise : R) (two : 2 ≤ length span.plans)
    (accesses : span.accesses ≡ (2 * (length span.plans - 1)) * 5) (chosen : ℕ → ℕ → Stamped R) (outcomes : ℕ → ℕ → Outcome R) where
  abbrev pub n : ℕ
  n = length span.plans

  abbrev pub a : ℕ
  a = span.accesses

  -- the number of the event that chooses
  abbrev pub ch : ℕ
  ch = (n - 2) * 5 + 4

  -- cell (i, j) after these steps
  abbrev pub cell : ℕ → ℕ → List ℕ → Trace (Stamped R)
  cell i j done = trace (first_record opening) (noise_record noise) (chosen i) (moments_of (turn_in n i j) at (events_after a [] done))

  -- the newest record of process i when its operation k begins
  abbrev pub before : ℕ → ℕ → Stamped R
  before i k = source_record (first_record opening) (chosen i) k

  pub before_next : (i k : ℕ) → before i (k + 1) ≡ chosen i k
  before_next i k = let e : k + 1 ≡ suc k = omega arith in ap (before i) e

  pub cell_on : (i j : ℕ) (done : List ℕ) (s : ℕ) →
      cell i j (done ++ s ∷ []) ≡ on (chosen i) (cell i j done) (at + length done) (turn_in n i j (event_after a done s))
  cell_on i j done s =
      ap (trace (first_record opening) (noise_record noise) (chosen i)) (cell_more a at (turn_in n i j) done s)
      ∙ trace_on (first_record opening) (noise_record noise) (chosen i) (moments_of (turn_in n i j) at (events_after a [] done))
      (at + length done) (turn_in n i j (event_after a done s))

  pub counted : (i j : ℕ) (done : List ℕ) → (end : ℕ) × IsCounted (cell i j done) end
  counted i j done =
      traces_counted (first_record opening) (noise_record noise) (chosen i) (moments_of (turn_in n i j) at (events_after a [] done))
      (rises_from_first at (moments_of (turn_in n i j) at (events_after a [] done))
      (moments_of_rise (turn_in n i j) at (events_after a [] done)))

  -- a reader in a read of a cell
  pub reader_now : (i j read k e : ℕ) (done : List ℕ) → other j read ≡ i → read + 1 < n → steps_of j done ≡ k * a + (read * 5 + e) → e < 5 →
      (made (cell i j done).cell.reader ≡ e) × (length (cell i j done).answers ≡ k)
  reader_now i j read k e done o l c le =
      let c' : length (positions at j done) ≡ k * a + (read * 5 + e) = positions_length at j done ∙ c in
      let f = side_fives (first_record opening) (noise_record noise) (chosen i) a (read * 5) at j (turn_in n i j) Reader (omega arith)
      (λ r. reader_turn n i j read r o l) (λ d. is_reader n i j read d o) done in
      let w : length (cell i j done).reader + read * 5 ≡ k * 5 + (read * 5 + e) =
      f.within k (read * 5 + e) c' (omega arith) (omega arith) (omega arith) in
      let q : length (cell i j done).reader ≡ length (cell i j done).answers * 5 + made (cell i j done).cell.reader =
      (counted i j done).1.reader in
      let small : made (cell i j done).cell.reader ≤ 4 = small_made (cell i j done).cell.reader in
      let k' : length (cell i j done).answers ≡ k =
      same_operation_number 5 (length (cell i j done).answers) k (made (cell i j done).cell.reader) e (omega arith) (omega arith) le in
      (omega arith, k')

  -- a writer in a write of a cell
  pub writer_now : (i j write k e : ℕ) (done : List ℕ) → other i write ≡ j → write + 1 < n →
      steps_of i done ≡ k * a + ((n - 1 + write) * 5 + e) → e < 5
      → (e + left (cell i j done).cell.writer ≡ (if nat_eq e 0 then 0 else 5))
      × (length (cell i j done).write_slots ≡ (if nat_eq e 0 then k else k + 1))
  writer_now i j write k e done o l c le =
      let c' : length (positions at i done) ≡ k * a + ((n - 1 + write) * 5 + e) = positions_length at i done ∙ c in
      let f = side_fives (first_record opening) (noise_record noise) (chosen i) a ((n - 1 + write) * 5) at i (turn_in n i j) Writer
      (omega arith) (λ r. writer_turn n i j write r o) (λ d. is_writer n i j write d o) done in
      let w : length (cell i j done).writer + (n - 1 + write) * 5 ≡ k * 5 + ((n - 1 + write) * 5 + e) =
      f.within k ((n - 1 + write) * 5 + e) c' (omega arith) (omega arith) (omega arith) in
      let q : length (cell i j done).writer + left (cell i j done).cell.writer ≡ length (cell i j done).write_slots * 5 =
      (counted i j done).1.writer in
      let small : left (cell i j done).cell.writer ≤ 4 = small_left (cell i j done).cell.writer in
      elim (cases_eq e 0) [
        | inl z ↦
            let t : nat_eq e 0 ≡ true = same e 0 z in
            let x : (e + left (cell i j done).cell.writer ≡ 0) × (length (cell i j done).write_slots ≡ k) = (omega arith, omega arith) in
            subst (λ b. (e + left (cell i j done).cell.writer ≡ (if b then 0 else 5))
            × (length (cell i j done).write_slots ≡ (if b then k else k + 1))) (sym t) x
        | inr ne ↦
            let t : nat_eq e 0 ≡ false = not_same e 0 ne in
            let x : (e + left (cell i j done).cell.writer ≡ 5) × (length (cell i j done).write_slots ≡ k + 1) =
            (omega arith, omega arith) in
            subst (λ b. (e + left (cell i j done).cell.writer ≡ (if b then 0 else 5))
            × (length (cell i j done).write_slots ≡ (if b then k else k + 1))) (sym t) x
      ]

  pub number_is : (done : List ℕ) (s k r : ℕ) → steps_of s done ≡ k * a + r → r < a → event_after a done s ≡ record { who = s; number = r }
  number_is done s k r c l =
      let m : ℕ = steps_of s done / a in
      let e : ℕ = steps_of s done % a in
      let q : m * a + e ≡ steps_of s done = div-add-mod' (steps_of s done) a in
      let mk : m ≡ k = same_operation_number a m k e r (q ∙ c) (omega arith) l in
      let mul : m * a ≡ k * a = ap (λ z. z * a) mk in
      let er : e ≡ r = omega arith in
      ap (λ z. let v : Event = record { who = s; number = z } in v) er

  -- the slots of one side's accesses stay at each step that isn't this side's of this cell
  pub write_slots_stay : (done : List ℕ) (s i j : ℕ) → turn_in n i j (event_after a done s) ≢ Some Writer →
      (cell i j (done ++ s ∷ [])).write_slots ≡ (cell i j done).write_slots
  write_slots_stay done s i j h = ap (λ t. t.write_slots) (cell_on i j done s)
      ∙ on_writes (chosen i) (cell i j done) (at + length done) (turn_in n i j (event_after a done s)) h

  pub read_slots_stay : (done : List ℕ) (s i j : ℕ) → turn_in n i j (event_after a done s) ≢ Some Reader →
      (cell i j (done ++ s ∷ [])).read_slots ≡ (cell i j done).read_slots
  read_slots_stay done s i j h = ap (λ t. t.read_slots) (cell_on i j done s)
      ∙ on_reads (chosen i) (cell i j done) (at + length done) (turn_in n i j (event_after a done s)) h

  -- a side's slots change at its own process's steps alone
  pub others_write_slots : (done : List ℕ) (s i j : ℕ) → s ≢ i → (cell i j (done ++ s ∷ [])).write_slots ≡ (cell i j done).write_slots
  others_write_slots done s i j ne = write_slots_stay done s i j (λ z. ne (writer_means n i j (event_after a done s) z).0)

  pub others_read_slots : (done : List ℕ) (s i j : ℕ) → s ≢ j → (cell i j (done ++ s ∷ [])).read_slots ≡ (cell i j done).read_slots
  others_read_slots done s i j ne = read_slots_stay done s i j (λ z. ne (reader_means n i j (event_after a done s) z).0)

  -- the answers of the first `count` cells of its column that process i has in its operation k
  pub record Hears (done : List ℕ) (i k count : ℕ) (answers : List (Stamped R)) : Type 0 where
    pub count_is : length answers ≡ count
    pub each : (x : ℕ) (y : Stamped R) → slice_get answers x ≡ Some y → slice_get (cell (other i x) i done).answers k ≡ Some y

  -- the progress of process i
  pub record IsLineAt (done : List ℕ) (i : ℕ) (line : Progress R) : Type 0 where
    pub k : ℕ
    pub r : ℕ
    pub steps : steps_of i done ≡ k * a + r
    pub inside : r < a
    pub low : line.done * 5 ≤ r
    pub high : r < line.done * 5 + 5
    pub early : r ≤ ch → line.own ≡ before i k
    pub late : ch < r → line.own ≡ chosen i k
    pub outcome : ch < r → line.outcome ≡ outcomes i k
    pub wish : 0 < r → r ≤ ch → planned span i k ≡ Some line.wish
    pub answers : List (Stamped R)
    pub hears : 0 < r → r ≤ ch → Hears done i k line.done answers
    pub seen : 0 < r → r ≤ ch → line.seen ≡ greatest (before i k) answers

  -- what operation k of process i saw when it chose
  pub record Saw (done : List ℕ) (i k : ℕ) : Type 0 where
    pub line : Progress R
    pub wish : planned span i k ≡ Some line.wish
    pub answers : List (Stamped R)
    pub hears : Hears done i k (n - 1) answers
    pub seen : line.seen ≡ greatest (before i k) answers
    pub chose : chosen i k ≡ (choice span.limit i line.wish line).own
    pub outcome : outcomes i k ≡ (choice span.limit i line.wish line).outcome

  pub record IsAt (done : List ℕ) (b : Board R) : Type 0 where
    pub size : board_size b ≡ n
    pub limit : b.limit ≡ span.limit
    pub places : length b.cells ≡ n * n
    pub cells : (i j : ℕ) → i < n → j < n → i ≢ j → slice_get b.cells (cell_place n i j) ≡ Some (cell i j done).cell
    pub lines : (i : ℕ) (line : Progress R) → slice_get b.lines i ≡ Some line → IsLineAt done i line
    pub saws : (i k : ℕ) → k * a + ch < steps_of i done → Saw done i k

  -- what stays through a step
  pub stays_heard : (done : List ℕ) (s i k count : ℕ) (answers : List (Stamped R)) → Hears done i k count answers →
      Hears (done ++ s ∷ []) i k count answers
  stays_heard done s i k count answers h = record {
    count_is = h.count_is;
    each = λ x y e. ap (λ t. slice_get t.answers k) (cell_on (other i x) i done s) ∙ on_answers (chosen (other i x))
        (cell (other i x) i done) (at + length done) (turn_in n (other i x) i (event_after a done s)) k y (h.each x y e);
  }

  pub stays_line : (done : List ℕ) (s i : ℕ) (line : Progress R) → s ≢ i → IsLineAt done i line → IsLineAt (done ++ s ∷ []) i line
  stays_line done s i line ne h = record {
    k = h.k;
    r = h.r;
    steps = steps_other i s done ne ∙ h.steps;
    inside = h.inside;
    low = h.low;
    high = h.high;
    early = h.early;
    late = h.late;
    outcome = h.outcome;
    wish = h.wish;
    answers = h.answers;
    hears = λ p l. stays_heard done s i h.k line.done h.answers (h.hears p l);
    seen = h.seen;
  }

  pub stays_saw : (done : List ℕ) (s i k : ℕ) → Saw done i k → Saw (done ++ s ∷ []) i k
  stays_saw done s i k h = record {
    line = h.line;
    wish = h.wish;
    answers = h.answers;
    hears = stays_heard done s i k (n - 1) h.answers h.hears;
    seen = h.seen;
    chose = h.chose;
    outcome = h.outcome;
  }

  -- a step of process s within its access, which leaves its progress as it is
  pub same_line : (done : List ℕ) (s : ℕ) (line : Progress R) (h : IsLineAt done s line) → 0 < h.r → h.r + 1 < line.done * 5 + 5 →
      h.r + 1 < a → (ch < h.r ⊎ (h.r + 1 ≤ ch)) → IsLineAt (done ++ s ∷ []) s line
  same_line done s line h pos hi la side = record {
    k = h.k;
    r = h.r + 1;
    steps =
        let e : steps_of s (done ++ s ∷ []) ≡ steps_of s done + 1 = steps_mine s done in
        let c : steps_of s done ≡ h.k * a + h.r = h.steps in
        omega arith;
    inside = la;
    low = let l : line.done * 5 ≤ h.r = h.low in omega arith;
    high = hi;
    early = λ l. h.early (omega arith);
    late = λ l. h.late (elim side [ inl x ↦ x | inr x ↦ absurd (omega arith) ]);
    outcome = λ l. h.outcome (elim side [ inl x ↦ x | inr x ↦ absurd (omega arith) ]);
    wish = λ p l. h.wish pos (omega arith);
    answers = h.answers;
    hears = λ p l. stays_heard done s s h.k line.done h.answers (h.hears pos (omega arith));
    seen = λ p l. h.seen pos (omega arith);
  }

  -- the cells after a step that is one of cell (v, w)
  pub cells_after : (done : List ℕ) (s v w : ℕ) (y : Turn) (cells : List (State (Stamped R))) (new : State (Stamped R)) → v < n →
      w < n → length cells ≡ n * n
      → ((i j : ℕ) → i < n → j < n → i ≢ j → slice_get cells (cell_place n i j) ≡ Some (cell i j done).cell)
      → turn_in n v w (event_after a done s) ≡ Some y → ((i j : ℕ) → (i ≡ v → j ≢ w) → turn_in n i j (event_after a done s) ≡ None)
      → new ≡ (then_step (chosen v) (cell v w done) y (at + length done)).cell
      → (i j : ℕ) → i < n → j < n → i ≢ j →
      slice_get (set cells (cell_place n v w) new) (cell_place n i j) ≡ Some (cell i j (done ++ s ∷ [])).cell
  cells_after done s v w y cells new lv lw len old now others is i j li lj ne = elim (cases_eq (cell_place n i j) (cell_place n v w)) [
    | inl e ↦
        let iv : i ≡ v = same_writer n i j v w lj lw e in
        let jw : j ≡ w = same_reader n i j v w iv e in
        let there : slice_get (set cells (cell_place n v w) new) (cell_place n v w) ≡ Some new =
        get_set_same cells (cell_place n v w) new (let p = place_inside n v w lv lw in omega arith) in
        let next : Some new ≡ Some (cell v w (done ++ s ∷ [])).cell =
        ap Some (is ∙ sym (ap (λ t. t.cell) (cell_on v w done s ∙ ap (on (chosen v) (cell v w done) (at + length done)) now))) in
        subst (λ x. slice_get (set cells (cell_place n v w) new) (cell_place n x j) ≡ Some (cell x j (done ++ s ∷ [])).cell) (sym iv)
        (subst (λ x. slice_get (set cells (cell_place n v w) new) (cell_place n v x) ≡ Some (cell v x (done ++ s ∷ [])).cell)
        (sym jw) (there ∙ next))
    | inr d ↦
        let none : turn_in n i j (event_after a done s) ≡ None =
        others i j (λ z q. d (ap (λ x. cell_place n x j) z ∙ ap (cell_place n v) q)) in
        get_unset cells (cell_place n v w) (cell_place n i j) new d ∙ old i j li lj ne
        ∙ ap Some (sym (ap (λ t. t.cell) (cell_on i j done s ∙ ap (on (chosen i) (cell i j done) (at + length done)) none)))
  ]
