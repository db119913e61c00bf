-- A step of a read of its column: one event of the cell that stands next in it. At its fifth the answer counts, and at the last one of
-- the column the operation chooses what the answers of its cells and its own record are.
use Rattle.std.proofs.Common.{◌≡◌, ◌≢◌, ℕ, ◌+◌, ◌-◌, ◌*◌, ◌/◌, ◌<◌, ◌≤◌, List, [], ◌∷◌, ◌++◌, length, set, slice_get, None, Some, true}
use Rattle.std.proofs.Common.{false, refl, sym, subst, ◌∙◌, ap, arith, inl, inr}
use Rattle.std.specs.Prelude.{nat_eq, if◌then◌else◌}
use Rattle.std.proofs.lemmas.Bool.{cases_eq, cases_lt}
use Rattle.std.proofs.lemmas.List.{length_push, length-set}
use Rattle.std.proofs.lemmas.Option.{none-some, slice_get_within}
use Rattle.history_core.proofs.Places.{get_pushed}
use Rattle.history_core.proofs.Played.{same_operation_number}
use Rattle.history_core.proofs.Positions.{steps_mine, steps_other}
use Rattle.history_core.specs.declared.wish.Wish.{Wish}
use Rattle.history_core.specs.Schedules.{planned, Span, steps_of}
use Rattle.four_slot_core.specs.declared.schedule.Turn.TheVariants.{Writer, Reader}
use Rattle.four_slot_core.specs.declared.state.State.{State}
use Rattle.four_slot_core.specs.Events.{after_read, answer, next_read, slot_number}
use Rattle.four_slot_core.specs.Traces.{then_step, Trace}
use Rattle.four_slot_core.proofs.Pushed.{get_cases, get_last}
use Rattle.four_slot_core.proofs.traces.Counts.{has_chosen, made}
use Rattle.matrix_core.specs.declared.stamp.Stamped.{Stamped}
use Rattle.matrix_core.specs.declared.progress.Progress.{Progress}
use Rattle.matrix_core.specs.declared.progress.Outcome.{Outcome}
use Rattle.matrix_core.specs.Lines.{begun, cell_place, choice, chosen as chosen_by, gathered, other}
use Rattle.matrix_core.specs.Stamps.{greater, greatest}
use Rattle.composed_play.specs.BoardEvents.{after_event, Board, board_size, heard}
use Rattle.composed_play.specs.Boards.{event_after, turn_in}
use Rattle.matrix_core.proofs.lines.Accesses.{begun_first, begun_later}
use Rattle.matrix_core.proofs.lines.Others.{other_differs, other_inside}
use Rattle.composed_play.proofs.boards.Steps.{choice_same, hear_is}
use Rattle.composed_play.proofs.boards.Cells.{reader_turn}
use Rattle.matrix_core.proofs.lists.Elements.{fold_more, get_set, get_set_same}
use Rattle.matrix_core.proofs.lists.Elements.{not_same, same}
use Rattle.composed_play.proofs.boards.Stages.{answered_last, heard_first, heard_last, heard_within, none_chosen, on, shown_read}
use Rattle.composed_play.proofs.boards.Stages.{unshown_read}
use Rattle.composed_play.proofs.boards.CellTurns.{no_turn, reader_means, writer_means}
use Rattle.composed_play.proofs.boards.Traces as base

module _ {R : Type 0} (at : ℕ) (span : Span R) (opening noise : R) (two : 2 ≤ length span.plans)
    (accesses : span.accesses ≡ (2 * (length span.plans - 1)) * 5) (chosen : ℕ → ℕ → Stamped R) (outcomes : ℕ → ℕ → Outcome R) where
  abbrev n : ℕ
  n = length span.plans

  abbrev a : ℕ
  a = span.accesses

  abbrev ch : ℕ
  ch = (n - 2) * 5 + 4

  abbrev cell : ℕ → ℕ → List ℕ → Trace (Stamped R)
  cell i j done = base.cell at span opening noise two accesses chosen outcomes i j done

  abbrev before : ℕ → ℕ → Stamped R
  before i k = base.before at span opening noise two accesses chosen outcomes i k

  abbrev Hears : List ℕ → ℕ → ℕ → ℕ → List (Stamped R) → Type 0
  Hears done i k count answers = base.Hears at span opening noise two accesses chosen outcomes done i k count answers

  abbrev IsLineAt : List ℕ → ℕ → Progress R → Type 0
  IsLineAt done i line = base.IsLineAt at span opening noise two accesses chosen outcomes done i line

  abbrev Saw : List ℕ → ℕ → ℕ → Type 0
  Saw done i k = base.Saw at span opening noise two accesses chosen outcomes done i k

  abbrev IsAt : List ℕ → Board R → Type 0
  IsAt done b = base.IsAt at span opening noise two accesses chosen outcomes done b

  -- a step of a read of its column
  module _ (done : List ℕ) (s : ℕ) (b : Board R) (w : Wish R) (line : Progress R) (ls : s < n) (h : IsAt done b)
      (there : slice_get b.lines s ≡ Some line) (hl : IsLineAt done s line)
      (phase : hl.r ≤ ch)
      (wished : (k : ℕ) → steps_of s done ≡ k * a → planned span s k ≡ Some w)
      (picks : (k : ℕ) (x : Progress R) → steps_of s done ≡ k * a + ch → slice_get (after_event b s w).lines s ≡ Some x →
      (chosen s k ≡ x.own) × (outcomes s k ≡ x.outcome)) where
    abbrev pub d : ℕ
    d = line.done

    abbrev pub from : ℕ
    from = other s d

    abbrev pub p : ℕ
    p = at + length done

    abbrev pub before_it : Trace (Stamped R)
    before_it = cell from s done

    abbrev pub sc : State (Stamped R)
    sc = before_it.cell

    pub column : d + 1 < n
    column = let lo : d * 5 ≤ hl.r = hl.low in omega arith

    pub lf : from < n
    lf = other_inside n s d ls column

    small : hl.r - d * 5 < 5
    small = let lo : d * 5 ≤ hl.r = hl.low in let hi : hl.r < d * 5 + 5 = hl.high in omega arith

    steps_at : steps_of s done ≡ hl.k * a + (d * 5 + (hl.r - d * 5))
    steps_at = let c : steps_of s done ≡ hl.k * a + hl.r = hl.steps in let lo : d * 5 ≤ hl.r = hl.low in omega arith

    pub now : (made sc.reader ≡ hl.r - d * 5) × (length before_it.answers ≡ hl.k)
    now = base.reader_now at span opening noise two accesses chosen outcomes from s d hl.k (hl.r - d * 5) done refl column steps_at small

    event : event_after a done s ≡ record { who = s; number = hl.r }
    event = base.number_is at span opening noise two accesses chosen outcomes done s hl.k hl.r hl.steps hl.inside

    turn : turn_in n from s (event_after a done s) ≡ Some Reader
    turn = let lo : d * 5 ≤ hl.r = hl.low in ap (turn_in n from s) event ∙ reader_turn n from s d hl.r refl column lo hl.high

    fifth : hl.r / 5 ≡ d
    fifth = let lo : d * 5 ≤ hl.r = hl.low in let hi : hl.r < d * 5 + 5 = hl.high in omega arith

    others : (i j : ℕ) → (i ≡ from → j ≢ s) → turn_in n i j (event_after a done s) ≡ None
    others i j ne = no_turn n i j (event_after a done s)
        (λ z.
        let m = writer_means n i j (record { who = s; number = hl.r }) (ap (turn_in n i j) (sym event) ∙ z) in
        let g : n - 1 ≤ hl.r / 5 = m.1 in
        let c = column in
        let f = fifth in
        omega arith)
        (λ z. let m = reader_means n i j (record { who = s; number = hl.r }) (ap (turn_in n i j) (sym event) ∙ z) in
        ne (sym m.2 ∙ ap (other j) fifth ∙ ap (λ y. other y d) (sym m.0)) (sym m.0))

    abbrev next : Progress R
    next = heard (board_size b) b.limit s w (next_read sc.reader sc) line

    after : after_event b s w ≡ record b { cells = set b.cells (cell_place n from s) (after_read sc.reader sc); lines = set b.lines s next }
    after =
        let sz : board_size b ≡ n = h.size in
        let c : slice_get b.cells (cell_place (board_size b) from s) ≡ Some sc =
        ap (λ z. slice_get b.cells (cell_place z from s)) sz ∙ h.cells from s lf ls (λ z. other_differs s d z) in
        hear_is b s w line sc there (let q = column in omega arith) c
        ∙ ap (λ z.
        let x : Board R = record b {
          cells = set b.cells (cell_place z from s) (after_read sc.reader sc);
          lines = set b.lines s next;
        } in
        x) sz

    next_there : slice_get (after_event b s w).lines s ≡ Some next
    next_there = ap (λ (x : Board R). slice_get x.lines s) after ∙ get_set_same b.lines s next (slice_get_within b.lines s line there)

    steps_next : steps_of s (done ++ s ∷ []) ≡ hl.k * a + (hl.r + 1)
    steps_next =
        let e : steps_of s (done ++ s ∷ []) ≡ steps_of s done + 1 = steps_mine s done in
        let c : steps_of s done ≡ hl.k * a + hl.r = hl.steps in
        omega arith

    room : hl.r + 1 < a
    room = let c = column in omega arith

    -- the answers with the one that the last event of this read gives
    abbrev more : List (Stamped R)
    more = hl.answers ++ answer sc ∷ []

    hears_more : made sc.reader ≡ 4 → 0 < hl.r → Hears (done ++ s ∷ []) s hl.k (d + 1) more
    hears_more full pos =
        let old : Hears done s hl.k d hl.answers = hl.hears pos phase in
        let stay : Hears (done ++ s ∷ []) s hl.k d hl.answers =
        base.stays_heard at span opening noise two accesses chosen outcomes done s s hl.k d hl.answers old in
        let count : length hl.answers ≡ d = old.count_is in
        record {
          count_is = length_push hl.answers (answer sc) ∙ ap (λ z. z + 1) count;
          each = λ x y e. elim (get_cases hl.answers (answer sc) x y e) [
            | inl o ↦ stay.each x y o
            | inr z ↦
                let xd : x ≡ d = z.0 ∙ count in
                let t : Trace (Stamped R) = then_step (chosen from) before_it Reader p in
                let cell_is : cell from s (done ++ s ∷ []) ≡ t =
                base.cell_on at span opening noise two accesses chosen outcomes from s done s
                ∙ ap (on (chosen from) before_it p) turn in
                let last : slice_get t.answers hl.k ≡ Some (answer sc) =
                ap (λ xs. slice_get xs hl.k) (answered_last sc.reader before_it.answers (answer sc) full)
                ∙ get_last before_it.answers (answer sc) hl.k (sym now.1) in
                ap (λ v. slice_get (cell (other s v) s (done ++ s ∷ [])).answers hl.k) xd ∙ ap (λ u. slice_get u.answers hl.k) cell_is
                ∙ last ∙ ap Some (sym z.1)
          ];
        }

    seen_more : 0 < hl.r → greater line.seen (answer sc) ≡ greatest (before s hl.k) more
    seen_more pos = ap (λ z. greater z (answer sc)) (hl.seen pos phase) ∙ sym (fold_more greater (before s hl.k) hl.answers (answer sc))

    first_line : hl.r ≡ d * 5 → IsLineAt (done ++ s ∷ []) s next
    first_line z =
        let m0 : made sc.reader ≡ 0 = now.0 ∙ (let q : hl.r - d * 5 ≡ 0 = omega arith in q) in
        let is : next ≡ begun w line = heard_first (board_size b) b.limit s w sc.reader sc line m0 in
        elim (cases_eq d 0) [
          | inl d0 ↦
              let r0 : hl.r ≡ 0 = omega arith in
              let is' : next ≡ record line { wish = w; seen = line.own } = is ∙ begun_first w line d0 in
              let own : line.own ≡ before s hl.k = hl.early phase in
              let plan : planned span s hl.k ≡ Some w = wished hl.k (let c : steps_of s done ≡ hl.k * a + hl.r = hl.steps in omega arith) in
              let x : IsLineAt (done ++ s ∷ []) s (record line { wish = w; seen = line.own }) = record {
                k = hl.k;
                r = hl.r + 1;
                steps = steps_next;
                inside = room;
                low = omega arith;
                high = omega arith;
                early = λ l. own;
                late = λ l. absurd (let c = column in omega arith);
                outcome = λ l. absurd (let c = column in omega arith);
                wish = λ q l. plan;
                answers = [];
                hears = λ q l. record { count_is = sym d0; each = λ x y e. absurd (none-some y e) };
                seen = λ q l. own;
              } in
              subst (λ z. IsLineAt (done ++ s ∷ []) s z) (sym is') x
          | inr ne ↦
              let pos : 0 < d = omega arith in
              let is' : next ≡ line = is ∙ begun_later w line pos in
              subst (λ z. IsLineAt (done ++ s ∷ []) s z) (sym is') (base.same_line at span opening noise two accesses chosen outcomes done s
              line hl (omega arith) (omega arith) room (inr (let c = column in
              omega arith)))
        ]

    within_line : d * 5 < hl.r → hl.r < d * 5 + 4 → IsLineAt (done ++ s ∷ []) s next
    within_line lo hi =
        let m : made sc.reader ≡ hl.r - d * 5 = now.0 in
        let is : next ≡ line = heard_within (board_size b) b.limit s w sc.reader sc line (omega arith) (omega arith) in
        subst (λ z. IsLineAt (done ++ s ∷ []) s z) (sym is) (base.same_line at span opening noise two accesses chosen outcomes done s line
        hl (omega arith) (omega arith) room (inr (let c = column in
        omega arith)))

    module _ (full : hl.r ≡ d * 5 + 4) where
      made_four : made sc.reader ≡ 4
      made_four = now.0 ∙ (let q : hl.r - d * 5 ≡ 4 = omega arith in q)

      plan : planned span s hl.k ≡ Some line.wish
      plan = hl.wish (omega arith) phase

      -- not the last read of the column
      other_line : d + 2 ≢ n → IsLineAt (done ++ s ∷ []) s next
      other_line ne =
          let sz : board_size b ≡ n = h.size in
          let t : nat_eq (d + 2) (board_size b) ≡ false = not_same (d + 2) (board_size b) (λ z. ne (z ∙ sz)) in
          let is : next ≡ gathered (answer sc) line = heard_last (board_size b) b.limit s w sc.reader sc line made_four
          ∙ ap (λ c. if c then chosen_by b.limit s (gathered (answer sc) line) else gathered (answer sc) line) t in
          let c : d + 1 < n = column in
          let own : line.own ≡ before s hl.k = hl.early phase in
          let x : IsLineAt (done ++ s ∷ []) s (gathered (answer sc) line) = record {
            k = hl.k;
            r = hl.r + 1;
            steps = steps_next;
            inside = room;
            low = omega arith;
            high = omega arith;
            early = λ l. own;
            late = λ l. absurd (omega arith);
            outcome = λ l. absurd (omega arith);
            wish = λ q l. plan;
            answers = more;
            hears = λ q l. hears_more made_four (omega arith);
            seen = λ q l. seen_more (omega arith);
          } in
          subst (λ z. IsLineAt (done ++ s ∷ []) s z) (sym is) x

      -- the last one, which chooses
      module _ (last : d + 2 ≡ n) where
        chosen_is : next ≡ choice span.limit s line.wish (gathered (answer sc) line)
        chosen_is =
            let sz : board_size b ≡ n = h.size in
            let t : nat_eq (d + 2) (board_size b) ≡ true = same (d + 2) (board_size b) (last ∙ sym sz) in
            heard_last (board_size b) b.limit s w sc.reader sc line made_four
            ∙ ap (λ c. if c then chosen_by b.limit s (gathered (answer sc) line) else gathered (answer sc) line) t
            ∙ ap (λ z. choice z s line.wish (gathered (answer sc) line)) h.limit

        at_choice : steps_of s done ≡ hl.k * a + ch
        at_choice = let c : steps_of s done ≡ hl.k * a + hl.r = hl.steps in omega arith

        own_now : next.own ≡ chosen s hl.k
        own_now = sym (picks hl.k next at_choice next_there).0

        choice_done : (q : Wish R) (x : Progress R) → (choice span.limit s q x).done ≡ x.done
        choice_done q x = choice_same span.limit s q x

        last_line : IsLineAt (done ++ s ∷ []) s next
        last_line =
            let dn : next.done ≡ d + 1 = ap (λ (z : Progress R). z.done) chosen_is ∙ choice_done line.wish (gathered (answer sc) line) in
            record {
              k = hl.k;
              r = hl.r + 1;
              steps = steps_next;
              inside = room;
              low = omega arith;
              high = omega arith;
              early = λ l. absurd (omega arith);
              late = λ l. own_now;
              outcome = λ l. sym (picks hl.k next at_choice next_there).1;
              wish = λ q l. absurd (omega arith);
              answers = [];
              hears = λ q l. absurd (omega arith);
              seen = λ q l. absurd (omega arith);
            }

        saw_now : Saw (done ++ s ∷ []) s hl.k
        saw_now = record {
          line = gathered (answer sc) line;
          wish = plan;
          answers = more;
          hears = subst (λ z. Hears (done ++ s ∷ []) s hl.k z more) (let q : d + 1 ≡ n - 1 = omega arith in
              q) (hears_more made_four (omega arith));
          seen = seen_more (omega arith);
          chose = sym own_now ∙ ap (λ (z : Progress R). z.own) chosen_is;
          outcome = (picks hl.k next at_choice next_there).1 ∙ ap (λ (z : Progress R). z.outcome) chosen_is;
        }

    next_line : IsLineAt (done ++ s ∷ []) s next
    next_line =
        let lo : d * 5 ≤ hl.r = hl.low in
        let hi : hl.r < d * 5 + 5 = hl.high in
        elim (cases_eq hl.r (d * 5)) [
          | inl z ↦ first_line z
          | inr ne ↦ elim (cases_eq hl.r (d * 5 + 4)) [
            | inr nf ↦ within_line (omega arith) (omega arith)
            | inl full ↦ elim (cases_eq (d + 2) n) [
              | inl last ↦ last_line full last
              | inr nl ↦ other_line full nl
            ]
          ]
        ]

    next_saws : (i k : ℕ) → k * a + ch < steps_of i (done ++ s ∷ []) → Saw (done ++ s ∷ []) i k
    next_saws i k l = elim (cases_lt (k * a + ch) (steps_of i done)) [
      | inl old ↦ base.stays_saw at span opening noise two accesses chosen outcomes done s i k (h.saws i k old)
      | inr ge ↦ elim (cases_eq s i) [
        | inr ne ↦ absurd (let e : steps_of i (done ++ s ∷ []) ≡ steps_of i done = steps_other i s done ne in omega arith)
        | inl mine ↦
            let e : steps_of i (done ++ s ∷ []) ≡ hl.k * a + (hl.r + 1) = ap (λ z. steps_of z (done ++ s ∷ [])) (sym mine) ∙ steps_next in
            let e' : steps_of i done ≡ hl.k * a + hl.r = ap (λ z. steps_of z done) (sym mine) ∙ hl.steps in
            let r1 = room in
            let eq : k * a + ch ≡ hl.k * a + hl.r = omega arith in
            let kk : k ≡ hl.k = same_operation_number a k hl.k ch hl.r eq (omega arith) (omega arith) in
            let mul : k * a ≡ hl.k * a = ap (λ z. z * a) kk in
            let rc : hl.r ≡ ch = omega arith in
            let lo : d * 5 ≤ hl.r = hl.low in
            let hi : hl.r < d * 5 + 5 = hl.high in
            let dn : d ≡ n - 2 = omega arith in
            subst (λ z. Saw (done ++ s ∷ []) z k) mine
            (subst (λ z. Saw (done ++ s ∷ []) s z) (sym kk) (saw_now (omega arith) (omega arith)))
      ]
    ]

    -- what the step shows of slots: at R3 that of this access, and nothing else of this process
    pub column_slot : hl.r ≡ d * 5 + 2 →
        slice_get (cell from s (done ++ s ∷ [])).read_slots hl.k ≡ Some (slot_number (after_read sc.reader sc).read)
    column_slot z =
        let two_made : made sc.reader ≡ 2 = now.0 ∙ (let q : hl.r - d * 5 ≡ 2 = omega arith in q) in
        let count : length before_it.read_slots ≡ length before_it.answers + has_chosen sc.reader =
        (base.counted at span opening noise two accesses chosen outcomes from s done).1.read_slots in
        let none : has_chosen sc.reader ≡ 0 = none_chosen sc.reader two_made in
        let k : length before_it.answers ≡ hl.k = now.1 in
        ap (λ t. slice_get t.read_slots hl.k)
        (base.cell_on at span opening noise two accesses chosen outcomes from s done s ∙ ap (on (chosen from) before_it p) turn)
        ∙ ap (λ xs. slice_get xs hl.k) (shown_read sc.reader before_it.read_slots (slot_number (after_read sc.reader sc).read) two_made)
        ∙ get_last before_it.read_slots (slot_number (after_read sc.reader sc).read) hl.k (omega arith)

    pub column_no_slot : hl.r ≢ d * 5 + 2 → (cell from s (done ++ s ∷ [])).read_slots ≡ before_it.read_slots
    column_no_slot ne =
        let other_made : made sc.reader ≢ 2 = λ z.
        let q : made sc.reader ≡ hl.r - d * 5 = now.0 in
        let lo : d * 5 ≤ hl.r = hl.low in
        ne (omega arith) in
        ap (λ t. t.read_slots)
        (base.cell_on at span opening noise two accesses chosen outcomes from s done s ∙ ap (on (chosen from) before_it p) turn)
        ∙ unshown_read sc.reader before_it.read_slots (slot_number (after_read sc.reader sc).read) other_made

    pub column_earlier : (k : ℕ) → k ≢ hl.k → slice_get (cell from s (done ++ s ∷ [])).read_slots k ≡ slice_get before_it.read_slots k
    column_earlier k ne = elim (cases_eq hl.r (d * 5 + 2)) [
      | inr other_event ↦ ap (λ xs. slice_get xs k) (column_no_slot other_event)
      | inl z ↦
          let two_made : made sc.reader ≡ 2 = now.0 ∙ (let q : hl.r - d * 5 ≡ 2 = omega arith in q) in
          let count : length before_it.read_slots ≡ length before_it.answers + has_chosen sc.reader =
          (base.counted at span opening noise two accesses chosen outcomes from s done).1.read_slots in
          let none : has_chosen sc.reader ≡ 0 = none_chosen sc.reader two_made in
          let k' : length before_it.answers ≡ hl.k = now.1 in
          ap (λ t. slice_get t.read_slots k)
          (base.cell_on at span opening noise two accesses chosen outcomes from s done s ∙ ap (on (chosen from) before_it p) turn)
          ∙ ap (λ xs. slice_get xs k) (shown_read sc.reader before_it.read_slots (slot_number (after_read sc.reader sc).read) two_made)
          ∙ get_pushed before_it.read_slots (slot_number (after_read sc.reader sc).read) k (λ q. ne (omega arith))
    ]

    pub column_others : (i j : ℕ) → (i ≡ from → j ≢ s) → ((cell i j (done ++ s ∷ [])).read_slots ≡ (cell i j done).read_slots)
        × ((cell i j (done ++ s ∷ [])).write_slots ≡ (cell i j done).write_slots)
    column_others i j ne =
        let none = others i j ne in (
          base.read_slots_stay at span opening noise two accesses chosen outcomes done s i j (λ z. none-some Reader (sym none ∙ z)),
          base.write_slots_stay at span opening noise two accesses chosen outcomes done s i j (λ z. none-some Writer (sym none ∙ z)),
        )

    pub column_step : IsAt (done ++ s ∷ []) (after_event b s w)
    column_step =
        let x : IsAt (done ++ s ∷ []) (record b {
          cells = set b.cells (cell_place n from s) (after_read sc.reader sc);
          lines = set b.lines s next;
        }) = record {
          size = length-set b.lines s next ∙ h.size;
          limit = h.limit;
          places = length-set b.cells (cell_place n from s) (after_read sc.reader sc) ∙ h.places;
          cells = base.cells_after at span opening noise two accesses chosen outcomes done s from s Reader b.cells (after_read sc.reader sc)
              lf ls h.places h.cells turn others refl;
          lines = λ i l e. elim (get_set b.lines s i next l e) [
            | inl q ↦ subst (λ z. IsLineAt (done ++ s ∷ []) z l) (sym q.0) (subst (λ z. IsLineAt (done ++ s ∷ []) s z) (sym q.1) next_line)
            | inr q ↦ base.stays_line at span opening noise two accesses chosen outcomes done s i l (λ z. q.0 (sym z)) (h.lines i l q.1)
          ];
          saws = next_saws;
        } in
        subst (λ z. IsAt (done ++ s ∷ []) z) (sym after) x
