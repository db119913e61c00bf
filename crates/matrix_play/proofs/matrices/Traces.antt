-- The records of a matrix are those that the operations chose: by induction over the steps of the term. A cell has the record whose
-- number is how many writes of it are made, so a read has the number of the last write before it.
use Rattle.std.proofs.Common.{◌≡◌, ◌≢◌, ℕ, suc, ◌+◌, ◌-◌, ◌*◌, ◌<◌, ◌≤◌, List, [], ◌∷◌, ◌++◌, length, set, slice_get}
use Rattle.std.proofs.Common.{Some, sym, subst, ◌∙◌, ap, arith, inl, inr, ⊎_elim}
use Rattle.std.proofs.lemmas.Bool.{cases_eq, cases_lt}
use Rattle.std.proofs.lemmas.List.{length_push}
use Rattle.std.proofs.lemmas.Option.{none-some, same_Some}
use Rattle.history_core.proofs.Played.{same_operation_number}
use Rattle.history_core.proofs.Positions.{steps_mine, steps_other}
use Rattle.history_core.specs.declared.wish.Wish.{Wish}
use Rattle.history_core.specs.Schedules.{access_at, planned, Span, steps_of}
use Rattle.four_slot_core.specs.Traces.{source_record}
use Rattle.four_slot_core.proofs.Pushed.{get_cases}
use Rattle.history_core.proofs.Times.{of_before, to_before}
use Rattle.matrix_core.specs.Stamps.{greater, greatest}
use Rattle.history_core.specs.Registers.{IsReadOf}
use Rattle.matrix_core.specs.declared.stamp.Stamped.{Stamped}
use Rattle.matrix_core.specs.declared.progress.Progress.{Progress}
use Rattle.matrix_core.specs.declared.progress.Outcome.{Outcome}
use Rattle.matrix_core.specs.ByAccesses.{column, row, intervals_at}
use Rattle.matrix_play.specs.MatrixEvents.{after_access, IsMatrix, Matrix}
use Rattle.matrix_core.specs.Lines.{begun, cell_place, choice, first_record, gathered, other}
use Rattle.matrix_play.specs.MatrixEvents.{size}
use Rattle.matrix_play.proofs.matrices.Accesses.{access_of, after_last_read, after_other_read, IsAccess, IsRead}
use Rattle.matrix_core.proofs.lines.Accesses.{begun_first, begun_later}
use Rattle.matrix_play.proofs.matrices.Accesses.{IsWrite}
use Rattle.matrix_core.proofs.lines.Others.{other_above, other_below, other_inside}
use Rattle.matrix_core.proofs.choices.ByAccesses.{done_event, in_done, step_event}
use Rattle.matrix_core.proofs.lists.Elements.{fold_more, get_set}
use Rattle.matrix_core.proofs.choices.Made.{IsMade, made_past, made_stays}
use Rattle.matrix_core.proofs.lines.Accesses.{read_done}
use Rattle.matrix_core.proofs.lines.Others.{same_writer}
use Rattle.matrix_play.proofs.matrices.Plays.{write_ends, write_goes_on}
use Rattle.matrix_core.proofs.lists.Elements.{get_exists}

-- different numbers are different processes
other_once : (i v w : ℕ) → other i v ≡ other i w → v ≡ w
other_once i v w h = elim (cases_lt v i) [
  | inl lv ↦
      let a : other i v ≡ v = other_below i v lv in
      elim (cases_lt w i) [
        | inl lw ↦ let b : other i w ≡ w = other_below i w lw in omega arith
        | inr gw ↦ let b : other i w ≡ w + 1 = other_above i w gw in absurd (omega arith)
      ]
  | inr gv ↦
      let a : other i v ≡ v + 1 = other_above i v gv in
      elim (cases_lt w i) [
        | inl lw ↦ let b : other i w ≡ w = other_below i w lw in absurd (omega arith)
        | inr gw ↦ let b : other i w ≡ w + 1 = other_above i w gw in omega arith
      ]
]

module _ {R : Type 0} (at : ℕ) (span : Span R) (opening : R) (two : 2 ≤ length span.plans)
    (accesses : span.accesses ≡ 2 * (length span.plans - 1)) (chosen : ℕ → ℕ → Stamped R) (outcomes : ℕ → ℕ → Outcome R) where
  abbrev pub n : ℕ
  n = length span.plans

  abbrev pub a : ℕ
  a = span.accesses

  -- the access that chooses
  abbrev pub ch : ℕ
  ch = n - 2

  -- the newest record of process i when its operation k begins
  abbrev pub before : ℕ → ℕ → Stamped R
  before i k = source_record (first_record opening) (chosen i) k

  before_next : (i k : ℕ) → before i (k + 1) ≡ chosen i k
  before_next i k = let e : k + 1 ≡ suc k = omega arith in ap (before i) e

  -- a read at the next step has as number how many writes of its cell are made
  is_read : (done rest : List ℕ) (i j e f k made : ℕ) → span.steps ≡ done ++ j ∷ rest → steps_of j done ≡ k * a + f →
      IsMade a e (steps_of i done) made → IsReadOf (intervals_at at span 1 i e) (intervals_at at span 1 j f) k made
  is_read done rest i j e f k made whole now h =
      let e0 : e * 1 ≡ e = omega arith in
      let e1 : e * 1 + (1 - 1) ≡ e = omega arith in
      let f0 : f * 1 ≡ f = omega arith in
      let f1 : f * 1 + (1 - 1) ≡ f = omega arith in
      let here : access_at at span j k f ≡ Some (at + length done) = step_event at span done rest j k f whole now in record {
        late = λ m b.
            let x = of_before (access_at at span i m (e * 1 + (1 - 1))) (access_at at span j k (f * 1)) b in
            h.all m (in_done at span done (j ∷ rest) i m e x.0 whole
            (ap (access_at at span i m) (sym e1) ∙ x.1) (x.2 (at + length done) (ap (access_at at span j k) f0 ∙ here)));
        begun = λ m q.
            let x = done_event at span done (j ∷ rest) i m e whole (h.inside m (omega arith)) in
            to_before (access_at at span i m (e * 1)) (access_at at span j k (f * 1 + (1 - 1))) x.0 (ap (access_at at span i m) e0 ∙ x.1)
            (λ y z.
            let s : at + length done ≡ y = same_Some (at + length done) y (sym here ∙ ap (access_at at span j k) (sym f1) ∙ z) in
            let l : x.0 < at + length done = x.2 in
            omega arith);
      }

  -- the answers of the first `count` cells of its column that process i has in its operation k
  pub record Sees (i k count : ℕ) (answers : List (Stamped R)) : Type 0 where
    pub count_is : length answers ≡ count
    pub each : (read write : ℕ) (answer : Stamped R) → slice_get answers read ≡ Some answer → other (other i read) write ≡ i → write + 1 < n
        → (m : ℕ) × IsReadOf (row at span 1 (other i read) write) (column at span 1 i read) k m
        × (answer ≡ source_record (first_record opening) (chosen (other i read)) m)

  -- the progress of process i
  pub record IsLineAt (done : List ℕ) (i : ℕ) (line : Progress R) : Type 0 where
    pub k : ℕ
    pub steps : steps_of i done ≡ k * a + line.done
    pub early : line.done ≤ ch → line.own ≡ before i k
    pub late : ch < line.done → line.own ≡ chosen i k
    pub outcome : ch < line.done → line.outcome ≡ outcomes i k
    pub wish : 0 < line.done → line.done ≤ ch → planned span i k ≡ Some line.wish
    pub answers : List (Stamped R)
    pub sees : 0 < line.done → line.done ≤ ch → Sees i k line.done answers
    pub seen : 0 < line.done → line.done ≤ ch → line.seen ≡ greatest (before i k) answers

  -- what operation k of process i saw when it chose
  pub record Saw (i k : ℕ) : Type 0 where
    pub line : Progress R
    pub wish : planned span i k ≡ Some line.wish
    pub answers : List (Stamped R)
    pub sees : Sees i k (n - 1) answers
    pub seen : line.seen ≡ greatest (before i k) answers
    pub chose : chosen i k ≡ (choice span.limit i line.wish line).own
    pub outcome : outcomes i k ≡ (choice span.limit i line.wish line).outcome

  -- the record of a cell is that of the last write
  pub record IsCell (done : List ℕ) (i write : ℕ) (x : Stamped R) : Type 0 where
    pub count : ℕ
    pub made : IsMade a (n - 1 + write) (steps_of i done) count
    pub is : x ≡ source_record (first_record opening) (chosen i) count

  pub record IsAt (done : List ℕ) (m : Matrix R) : Type 0 where
    pub matrix : IsMatrix m
    pub same_size : size m ≡ n
    pub limit : m.limit ≡ span.limit
    pub cells : (i write : ℕ) (x : Stamped R) → i < n → write + 1 < n →
        slice_get m.cells (cell_place n i (other i write)) ≡ Some x → IsCell done i write x
    pub lines : (i : ℕ) (line : Progress R) → slice_get m.lines i ≡ Some line → IsLineAt done i line
    pub saws : (i k : ℕ) → k * a + ch < steps_of i done → Saw i k

  stays_line : (done : List ℕ) (s i : ℕ) (line : Progress R) → s ≢ i → IsLineAt done i line → IsLineAt (done ++ s ∷ []) i line
  stays_line done s i line ne h = record {
    k = h.k;
    steps = steps_other i s done ne ∙ h.steps;
    early = h.early;
    late = h.late;
    outcome = h.outcome;
    wish = h.wish;
    answers = h.answers;
    sees = h.sees;
    seen = h.seen;
  }

  -- a cell that isn't written
  stays_cell : (done : List ℕ) (s k r i write : ℕ) (x : Stamped R) → steps_of s done ≡ k * a + r → r < a → write + 1 < n →
      (i ≡ s → n - 1 + write ≢ r) → IsCell done i write x → IsCell (done ++ s ∷ []) i write x
  stays_cell done s k r i write x now lr lw ne h = record {
    count = h.count;
    made = elim (cases_eq s i) [
      | inl mine ↦
          let st : steps_of i (done ++ s ∷ []) ≡ steps_of i done + 1 = ap (λ z. steps_of i (done ++ z ∷ [])) mine ∙ steps_mine i done in
          let now_i : steps_of i done ≡ k * a + r = ap (λ z. steps_of z done) (sym mine) ∙ now in
          subst (λ c. IsMade a (n - 1 + write) c h.count) (sym st)
          (made_stays a (n - 1 + write) (steps_of i done) k r h.count now_i lr (omega arith) (ne (sym mine)) h.made)
      | inr other_one ↦ subst (λ c. IsMade a (n - 1 + write) c h.count) (sym (steps_other i s done other_one)) h.made
    ];
    is = h.is;
  }

  module _ (done rest : List ℕ) (s : ℕ) (m : Matrix R) (w : Wish R) (line : Progress R) (whole : span.steps ≡ done ++ s ∷ rest) (ls : s < n)
      (h : IsAt done m) (there : slice_get m.lines s ≡ Some line) (hl : IsLineAt done s line)
      (wished : (k : ℕ) → steps_of s done ≡ k * a → planned span s k ≡ Some w)
      (picks : (k : ℕ) (x : Progress R) → steps_of s done ≡ k * a + ch → slice_get (after_access m s w).lines s ≡ Some x →
      (chosen s k ≡ x.own) × (outcomes s k ≡ x.outcome))
      (next : Progress R) (acc : IsAccess m (after_access m s w) s w line next) where
    abbrev d : ℕ
    d = line.done

    steps_next : steps_of s (done ++ s ∷ []) ≡ hl.k * a + (d + 1)
    steps_next =
        let e : steps_of s (done ++ s ∷ []) ≡ steps_of s done + 1 = steps_mine s done in
        let c : steps_of s done ≡ hl.k * a + d = hl.steps in
        omega arith

    inside : d + 3 ≤ 2 * n
    inside = let i : d + 3 ≤ 2 * size m = h.matrix.inside s line there in let e : size m ≡ n = h.same_size in omega arith

    -- the lines after the step
    lines_after : IsLineAt (done ++ s ∷ []) s next → (i : ℕ) (l : Progress R) → slice_get (after_access m s w).lines i ≡ Some l →
        IsLineAt (done ++ s ∷ []) i l
    lines_after is i l e = elim (get_set m.lines s i next l (ap (λ xs. slice_get xs i) (sym acc.lines) ∙ e)) [
      | inl q ↦ subst (λ z. IsLineAt (done ++ s ∷ []) z l) (sym q.0) (subst (λ z. IsLineAt (done ++ s ∷ []) s z) (sym q.1) is)
      | inr q ↦ stays_line done s i l (λ z. q.0 (sym z)) (h.lines i l q.1)
    ]

    -- operations that had chosen before
    saws_before : d ≢ ch → (i k : ℕ) → k * a + ch < steps_of i (done ++ s ∷ []) → Saw i k
    saws_before ne i k l = elim (cases_eq s i) [
      | inr differ ↦ h.saws i k (let e : steps_of i (done ++ s ∷ []) ≡ steps_of i done = steps_other i s done differ in omega arith)
      | inl mine ↦
          let e : steps_of i (done ++ s ∷ []) ≡ hl.k * a + (d + 1) = ap (λ z. steps_of z (done ++ s ∷ [])) (sym mine) ∙ steps_next in
          let c : steps_of i done ≡ hl.k * a + d = ap (λ z. steps_of z done) (sym mine) ∙ hl.steps in
          h.saws i k (elim (cases_eq (k * a + ch) (hl.k * a + d)) [
            | inr other_one ↦ omega arith
            | inl now ↦
                let g = inside in
                let same : k ≡ hl.k = same_operation_number a k hl.k ch d now (omega arith) (omega arith) in
                let mul : k * a ≡ hl.k * a = ap (λ z. z * a) same in
                absurd (ne (omega arith))
          ])
    ]

    -- a read of the column
    module _ (r : IsRead m (after_access m s w) s w line next) where
      phase : d + 1 < n
      phase = let p : d + 1 < size m = r.phase in let e : size m ≡ n = h.same_size in omega arith

      abbrev from : ℕ
      from = other s d

      abbrev now_line : Progress R
      now_line = begun w line

      -- what it has seen before this read
      record IsSeeing : Type 0 where
        own : now_line.own ≡ before s hl.k
        wish : planned span s hl.k ≡ Some now_line.wish
        answers : List (Stamped R)
        sees : Sees s hl.k d answers
        seen : now_line.seen ≡ greatest (before s hl.k) answers

      seeing : IsSeeing
      seeing = elim (cases_eq d 0) [
        | inl z ↦
            let b : record line { wish = w; seen = line.own } ≡ now_line = sym (begun_first w line z) in
            let own : line.own ≡ before s hl.k = hl.early (omega arith) in
            let c : steps_of s done ≡ hl.k * a + d = hl.steps in
            record {
              own = ap (λ (l : Progress R). l.own) (sym b) ∙ own;
              wish = wished hl.k (omega arith) ∙ ap (λ (l : Progress R). Some l.wish) b;
              answers = [];
              sees = record { count_is = sym z; each = λ read write answer e. absurd (none-some answer e) };
              seen = ap (λ (l : Progress R). l.seen) (sym b) ∙ own;
            }
        | inr ne ↦
            let pos : 0 < d = omega arith in
            let p = phase in
            let b : line ≡ now_line = sym (begun_later w line pos) in
            record {
              own = ap (λ (l : Progress R). l.own) (sym b) ∙ hl.early (omega arith);
              wish = hl.wish pos (omega arith) ∙ ap (λ (l : Progress R). Some l.wish) b;
              answers = hl.answers;
              sees = hl.sees pos (omega arith);
              seen = ap (λ (l : Progress R). l.seen) (sym b) ∙ hl.seen pos (omega arith);
            }
      ]

      abbrev more : List (Stamped R)
      more = seeing.answers ++ r.answer ∷ []

      sees_more : Sees s hl.k (d + 1) more
      sees_more =
          let p = phase in
          let count : length seeing.answers ≡ d = seeing.sees.count_is in
          let lf : from < n = other_inside n s d ls p in
          let cell : slice_get m.cells (cell_place n from s) ≡ Some r.answer =
          ap (λ z. slice_get m.cells (cell_place z from s)) (sym h.same_size) ∙ r.of_cell in
          record {
            count_is = length_push seeing.answers r.answer ∙ ap (λ z. z + 1) count;
            each = λ read write answer e back l. elim (get_cases seeing.answers r.answer read answer e) [
              | inl old ↦ seeing.sees.each read write answer old back l
              | inr new ↦
                  let rd : read ≡ d = new.0 ∙ count in
                  let back_now : other from write ≡ s = ap (λ z. other (other s z) write) (sym rd) ∙ back in
                  let c : IsCell done from write r.answer =
                  h.cells from write r.answer lf l (ap (λ z. slice_get m.cells (cell_place n from z)) back_now ∙ cell) in
                  let x : (k : ℕ) × IsReadOf (row at span 1 from write) (column at span 1 s d) hl.k k
                  × (answer ≡ source_record (first_record opening) (chosen from) k) =
                  (c.count, is_read done rest from s (n - 1 + write) d hl.k c.count whole hl.steps c.made, new.1 ∙ c.is) in
                  subst (λ z. (k : ℕ) × IsReadOf (row at span 1 (other s z) write) (column at span 1 s z) hl.k k
                  × (answer ≡ source_record (first_record opening) (chosen (other s z)) k)) (sym rd) x
            ];
          }

      seen_more : (gathered r.answer now_line).seen ≡ greatest (before s hl.k) more
      seen_more = ap (λ z. greater z r.answer) seeing.seen ∙ sym (fold_more greater (before s hl.k) seeing.answers r.answer)

      done_next : next.done ≡ d + 1
      done_next = ap (λ (l : Progress R). l.done) r.after ∙ read_done (size m) m.limit s w line r.answer

      -- any but the last read
      goes_on : d ≢ ch → IsLineAt (done ++ s ∷ []) s next
      goes_on ne =
          let p = phase in
          let is : next ≡ gathered r.answer now_line =
          r.after ∙ after_other_read (size m) m.limit s w line r.answer (λ z. let e : size m ≡ n = h.same_size in ne (omega arith)) in
          let nd = done_next in
          record {
            k = hl.k;
            steps = steps_next ∙ ap (λ z. hl.k * a + z) (sym nd);
            early = λ l. ap (λ (x : Progress R). x.own) is ∙ seeing.own;
            late = λ l. absurd (omega arith);
            outcome = λ l. absurd (omega arith);
            wish = λ q l. seeing.wish ∙ ap (λ (x : Progress R). Some x.wish) (sym is);
            answers = more;
            sees = λ q l. subst (λ z. Sees s hl.k z more) (sym nd) sees_more;
            seen = λ q l. ap (λ (x : Progress R). x.seen) is ∙ seen_more;
          }

      -- the last one, which chooses
      module _ (last : d ≡ ch) where
        abbrev saw_line : Progress R
        saw_line = gathered r.answer now_line

        picked : (chosen s hl.k ≡ next.own) × (outcomes s hl.k ≡ next.outcome)
        picked = picks hl.k next (let c : steps_of s done ≡ hl.k * a + d = hl.steps in omega arith) acc.here

        chooses : next ≡ choice span.limit s saw_line.wish saw_line
        chooses =
            let p = phase in
            r.after ∙ after_last_read (size m) m.limit s w line r.answer (let e : size m ≡ n = h.same_size in omega arith)
            ∙ ap (λ z. choice z s now_line.wish saw_line) h.limit

        choice_line : IsLineAt (done ++ s ∷ []) s next
        choice_line =
            let nd = done_next in
            record {
              k = hl.k;
              steps = steps_next ∙ ap (λ z. hl.k * a + z) (sym nd);
              early = λ l. absurd (omega arith);
              late = λ l. sym picked.0;
              outcome = λ l. sym picked.1;
              wish = λ q l. absurd (omega arith);
              answers = [];
              sees = λ q l. absurd (omega arith);
              seen = λ q l. absurd (omega arith);
            }

        saw_now : Saw s hl.k
        saw_now = record {
          line = saw_line;
          wish = seeing.wish;
          answers = more;
          sees = let p = phase in let e : d + 1 ≡ n - 1 = omega arith in subst (λ z. Sees s hl.k z more) e sees_more;
          seen = seen_more;
          chose = picked.0 ∙ ap (λ (x : Progress R). x.own) chooses;
          outcome = picked.1 ∙ ap (λ (x : Progress R). x.outcome) chooses;
        }

        saws_now : (i k : ℕ) → k * a + ch < steps_of i (done ++ s ∷ []) → Saw i k
        saws_now i k l = elim (cases_eq s i) [
          | inr differ ↦ h.saws i k (let e : steps_of i (done ++ s ∷ []) ≡ steps_of i done = steps_other i s done differ in omega arith)
          | inl mine ↦
              let e : steps_of i (done ++ s ∷ []) ≡ hl.k * a + (d + 1) = ap (λ z. steps_of z (done ++ s ∷ [])) (sym mine) ∙ steps_next in
              let c : steps_of i done ≡ hl.k * a + d = ap (λ z. steps_of z done) (sym mine) ∙ hl.steps in
              elim (cases_eq (k * a + ch) (hl.k * a + d)) [
                | inr other_one ↦ h.saws i k (omega arith)
                | inl now ↦
                    let g = inside in
                    let same : k ≡ hl.k = same_operation_number a k hl.k ch d now (omega arith) (omega arith) in
                    subst (λ z. Saw z k) mine (subst (λ z. Saw s z) (sym same) saw_now)
              ]
        ]

      read_step : IsAt (done ++ s ∷ []) (after_access m s w)
      read_step =
          let p = phase in
          let g = inside in
          let cells : (i write : ℕ) (x : Stamped R) → i < n → write + 1 < n →
          slice_get (after_access m s w).cells (cell_place n i (other i write)) ≡ Some x → IsCell (done ++ s ∷ []) i write x
          = λ i write x li lw e. stays_cell done s hl.k d i write x hl.steps (omega arith) lw (λ q z. omega arith)
          (h.cells i write x li lw (ap (λ xs. slice_get xs (cell_place n i (other i write))) (sym r.cells) ∙ e)) in
          elim (cases_eq d ch) [
            | inl last ↦ record {
              matrix = acc.matrix;
              same_size = acc.same_size ∙ h.same_size;
              limit = acc.limit ∙ h.limit;
              cells = cells;
              lines = lines_after (choice_line last);
              saws = saws_now last;
            }
            | inr ne ↦ record {
              matrix = acc.matrix;
              same_size = acc.same_size ∙ h.same_size;
              limit = acc.limit ∙ h.limit;
              cells = cells;
              lines = lines_after (goes_on ne);
              saws = saws_before ne;
            }
          ]

    -- a write of the row
    module _ (r : IsWrite m (after_access m s w) s line next) where
      late_phase : n ≤ d + 1
      late_phase = let p : size m ≤ d + 1 = r.phase in let e : size m ≡ n = h.same_size in omega arith

      abbrev wn : ℕ
      wn = d + 1 - n

      own_now : line.own ≡ chosen s hl.k
      own_now = hl.late (let p = late_phase in omega arith)

      write_line : IsLineAt (done ++ s ∷ []) s next
      write_line =
          let p = late_phase in
          let sz : size m ≡ n = h.same_size in
          let own : next.own ≡ chosen s hl.k = ap (λ (l : Progress R). l.own) r.after ∙ own_now in
          elim (cases_eq (d + 3) (2 * n)) [
            | inl last ↦
                let nd : next.done ≡ 0 = ap (λ (l : Progress R). l.done) r.after ∙ write_ends (size m) line (omega arith) in
                let sn : steps_of s (done ++ s ∷ []) ≡ hl.k * a + (d + 1) = steps_next in
                let nx : (hl.k + 1) * a ≡ hl.k * a + a = omega arith in
                record {
                  k = hl.k + 1;
                  steps = omega arith;
                  early = λ l. own ∙ sym (before_next s hl.k);
                  late = λ l. absurd (omega arith);
                  outcome = λ l. absurd (omega arith);
                  wish = λ q l. absurd (omega arith);
                  answers = [];
                  sees = λ q l. absurd (omega arith);
                  seen = λ q l. absurd (omega arith);
                }
            | inr ne ↦
                let nd : next.done ≡ d + 1 =
                ap (λ (l : Progress R). l.done) r.after ∙ write_goes_on (size m) line (λ z. ne (omega arith)) in
                record {
                  k = hl.k;
                  steps = steps_next ∙ ap (λ z. hl.k * a + z) (sym nd);
                  early = λ l. absurd (omega arith);
                  late = λ l. own;
                  outcome = λ l. ap (λ (x : Progress R). x.outcome) r.after ∙ hl.outcome (omega arith);
                  wish = λ q l. absurd (omega arith);
                  answers = [];
                  sees = λ q l. absurd (omega arith);
                  seen = λ q l. absurd (omega arith);
                }
          ]

      write_step : IsAt (done ++ s ∷ []) (after_access m s w)
      write_step =
          let p = late_phase in
          let g = inside in
          let sz : size m ≡ n = h.same_size in
          let is : (after_access m s w).cells ≡ set m.cells (cell_place n s (other s wn)) line.own =
          r.cells ∙ ap (λ z. set m.cells (cell_place z s (other s (d + 1 - z))) line.own) sz in
          record {
            matrix = acc.matrix;
            same_size = acc.same_size ∙ sz;
            limit = acc.limit ∙ h.limit;
            cells = λ i write x li lw e. elim (get_set m.cells (cell_place n s (other s wn)) (cell_place n i (other i write)) line.own x
                (ap (λ xs. slice_get xs (cell_place n i (other i write))) (sym is) ∙ e)) [
                  | inl q ↦
                      let mine : i ≡ s = same_writer n i (other i write) s (other s wn) (other_inside n i write li lw)
                      (other_inside n s wn ls (omega arith)) q.0 in
                      let mul : i * n ≡ s * n = ap (λ z. z * n) mine in
                      let ow : other i write ≡ other s wn = omega (arith, q.0) in
                      let wr : write ≡ wn = other_once s write wn (ap (λ z. other z write) (sym mine) ∙ ow) in
                      let made : IsMade a (n - 1 + write) (steps_of s (done ++ s ∷ [])) (hl.k + 1) =
                      made_past a (n - 1 + write) (steps_of s (done ++ s ∷ [])) hl.k (d + 1) steps_next (omega arith) (omega arith) in
                      let c : IsCell (done ++ s ∷ []) s write x = record {
                        count = hl.k + 1;
                        made = made;
                        is = q.1 ∙ own_now ∙ sym (before_next s hl.k);
                      } in
                      subst (λ z. IsCell (done ++ s ∷ []) z write x) (sym mine) c
                  | inr q ↦ stays_cell done s hl.k d i write x hl.steps (omega arith) lw
                      (λ mine z.
                      let wr : write ≡ wn = omega arith in
                      q.0 (ap (λ y. cell_place n y (other y write)) mine ∙ ap (λ y. cell_place n s (other s y)) wr))
                      (h.cells i write x li lw q.1)
                ];
            lines = lines_after write_line;
            saws = saws_before (λ z. omega arith);
          }

  -- one step
  pub matrix_step : (done rest : List ℕ) (s : ℕ) (m : Matrix R) (w : Wish R) → span.steps ≡ done ++ s ∷ rest → s < n → IsAt done m →
      ((k : ℕ) → steps_of s done ≡ k * a → planned span s k ≡ Some w)
      → ((k : ℕ) (x : Progress R) → steps_of s done ≡ k * a + ch → slice_get (after_access m s w).lines s ≡ Some x →
      (chosen s k ≡ x.own) × (outcomes s k ≡ x.outcome)) → IsAt (done ++ s ∷ []) (after_access m s w)
  matrix_step done rest s m w whole ls h wished picks =
      let sz : size m ≡ n = h.same_size in
      let x = get_exists m.lines s (omega arith) in
      let acc = access_of m s w x.0 h.matrix x.1 in
      let hl : IsLineAt done s x.0 = h.lines s x.0 x.1 in
      ⊎_elim
      (λ (r : IsRead m (after_access m s w) s w x.0 acc.0). read_step done rest s m w x.0 whole ls h x.1 hl wished picks acc.0 acc.1 r)
      (λ (r : IsWrite m (after_access m s w) s x.0 acc.0). write_step done rest s m w x.0 whole ls h x.1 hl wished picks acc.0 acc.1 r)
      acc.1.kind
