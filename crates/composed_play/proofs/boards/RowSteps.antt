-- A step of a write of its row: one event of the cell that stands next in it, which takes what the operation chose.
use Rattle.std.proofs.Common.{◌≡◌, ◌≢◌, ℕ, ◌+◌, ◌-◌, ◌*◌, ◌/◌, ◌<◌, ◌≤◌, List, [], ◌∷◌, ◌++◌, length, set, slice_get, None, Some, true}
use Rattle.std.proofs.Common.{false, refl, sym, subst, ◌∙◌, ap, arith, inl, inr}
use Rattle.std.specs.Prelude.{nat_eq, if◌then◌else◌}
use Rattle.std.proofs.lemmas.Bool.{cases_eq, cases_lt}
use Rattle.std.proofs.lemmas.List.{length-set}
use Rattle.std.proofs.lemmas.Option.{none-some}
use Rattle.history_core.proofs.Places.{get_pushed}
use Rattle.history_core.proofs.Played.{same_operation_number}
use Rattle.history_core.proofs.Positions.{steps_mine, steps_other}
use Rattle.history_core.specs.declared.wish.Wish.{Wish}
use Rattle.history_core.specs.Schedules.{Span, steps_of}
use Rattle.four_slot_core.specs.declared.schedule.Turn.TheVariants.{Writer, Reader}
use Rattle.four_slot_core.specs.declared.state.State.{State}
use Rattle.four_slot_core.specs.Events.{after_write, next_write, slot_number}
use Rattle.four_slot_core.specs.Traces.{then_step, Trace}
use Rattle.four_slot_core.proofs.Pushed.{get_last}
use Rattle.four_slot_core.proofs.traces.Counts.{left}
use Rattle.matrix_core.specs.declared.stamp.Stamped.{Stamped}
use Rattle.matrix_core.specs.declared.progress.Progress.{Progress}
use Rattle.matrix_core.specs.declared.progress.Outcome.{Outcome}
use Rattle.matrix_core.specs.Lines.{cell_place, other}
use Rattle.composed_play.specs.BoardEvents.{after_event, Board, board_size, posted}
use Rattle.composed_play.specs.Boards.{event_after, turn_in}
use Rattle.matrix_core.proofs.lines.Others.{other_differs, other_inside}
use Rattle.composed_play.proofs.boards.Steps.{post_is}
use Rattle.composed_play.proofs.boards.Cells.{writer_turn}
use Rattle.matrix_core.proofs.lists.Elements.{get_set}
use Rattle.matrix_core.proofs.lists.Elements.{not_same, same}
use Rattle.composed_play.proofs.boards.Stages.{item_ignored, on, posted_last, posted_within, shown_write, unshown_write}
use Rattle.composed_play.proofs.boards.CellTurns.{no_turn, reader_means, writer_means}
use Rattle.composed_play.proofs.boards.Traces as base

module _ {R : Type 0} (at : ℕ) (span : Span R) (opening noise : R) (two : 2 ≤ length span.plans)
    (accesses : span.accesses ≡ (2 * (length span.plans - 1)) * 5) (chosen : ℕ → ℕ → Stamped R) (outcomes : ℕ → ℕ → Outcome R) where
  abbrev n : ℕ
  n = length span.plans

  abbrev a : ℕ
  a = span.accesses

  abbrev ch : ℕ
  ch = (n - 2) * 5 + 4

  abbrev cell : ℕ → ℕ → List ℕ → Trace (Stamped R)
  cell i j done = base.cell at span opening noise two accesses chosen outcomes i j done

  abbrev IsLineAt : List ℕ → ℕ → Progress R → Type 0
  IsLineAt done i line = base.IsLineAt at span opening noise two accesses chosen outcomes done i line

  abbrev Saw : List ℕ → ℕ → ℕ → Type 0
  Saw done i k = base.Saw at span opening noise two accesses chosen outcomes done i k

  abbrev IsAt : List ℕ → Board R → Type 0
  IsAt done b = base.IsAt at span opening noise two accesses chosen outcomes done b

  -- a step of a write of its row
  module _ (done : List ℕ) (s : ℕ) (b : Board R) (w : Wish R) (line : Progress R) (ls : s < n) (h : IsAt done b)
      (there : slice_get b.lines s ≡ Some line) (hl : IsLineAt done s line) (phase : ch < hl.r) where
    abbrev pub dw : ℕ
    dw = line.done

    abbrev pub wn : ℕ
    wn = line.done + 1 - n

    abbrev pub to : ℕ
    to = other s wn

    abbrev pub written : Trace (Stamped R)
    written = cell s to done

    abbrev pub wc : State (Stamped R)
    wc = written.cell

    pub row_done : (n ≤ dw + 1) × (wn + 1 < n) × (n - 1 + wn ≡ dw)
    row_done =
        let lo : dw * 5 ≤ hl.r = hl.low in
        let hi : hl.r < dw * 5 + 5 = hl.high in
        let l : hl.r < a = hl.inside in
        (omega arith, omega arith, omega arith)

    pub lto : to < n
    lto = other_inside n s wn ls row_done.1

    w_small : hl.r - dw * 5 < 5
    w_small = let lo : dw * 5 ≤ hl.r = hl.low in let hi : hl.r < dw * 5 + 5 = hl.high in omega arith

    w_now : (hl.r - dw * 5 + left wc.writer ≡ (if nat_eq (hl.r - dw * 5) 0 then 0 else 5))
        × (length written.write_slots ≡ (if nat_eq (hl.r - dw * 5) 0 then hl.k else hl.k + 1))
    w_now =
        let c : steps_of s done ≡ hl.k * a + hl.r = hl.steps in
        let lo : dw * 5 ≤ hl.r = hl.low in
        let q : n - 1 + wn ≡ dw = row_done.2 in
        base.writer_now at span opening noise two accesses chosen outcomes s to wn hl.k (hl.r - dw * 5) done refl
        row_done.1 (omega arith) w_small

    pub w_first : hl.r ≡ dw * 5 → (left wc.writer ≡ 0) × (length written.write_slots ≡ hl.k)
    w_first z =
        let e0 : hl.r - dw * 5 ≡ 0 = omega arith in
        let t : nat_eq (hl.r - dw * 5) 0 ≡ true = same (hl.r - dw * 5) 0 e0 in
        let x : hl.r - dw * 5 + left wc.writer ≡ 0 = w_now.0 ∙ ap (λ c. if c then 0 else 5) t in
        (omega arith, w_now.1 ∙ ap (λ c. if c then hl.k else hl.k + 1) t)

    pub w_later : hl.r ≢ dw * 5 → (hl.r - dw * 5 + left wc.writer ≡ 5) × (length written.write_slots ≡ hl.k + 1)
    w_later ne =
        let lo : dw * 5 ≤ hl.r = hl.low in
        let t : nat_eq (hl.r - dw * 5) 0 ≡ false = not_same (hl.r - dw * 5) 0 (λ z. ne (omega arith)) in
        (w_now.0 ∙ ap (λ c. if c then 0 else 5) t, w_now.1 ∙ ap (λ c. if c then hl.k else hl.k + 1) t)

    w_event : event_after a done s ≡ record { who = s; number = hl.r }
    w_event = base.number_is at span opening noise two accesses chosen outcomes done s hl.k hl.r hl.steps hl.inside

    w_turn : turn_in n s to (event_after a done s) ≡ Some Writer
    w_turn =
        let lo : dw * 5 ≤ hl.r = hl.low in
        let hi : hl.r < dw * 5 + 5 = hl.high in
        let q : n - 1 + wn ≡ dw = row_done.2 in
        ap (turn_in n s to) w_event ∙ writer_turn n s to wn hl.r refl (omega arith) (omega arith)

    w_fifth : hl.r / 5 ≡ dw
    w_fifth = let lo : dw * 5 ≤ hl.r = hl.low in let hi : hl.r < dw * 5 + 5 = hl.high in omega arith

    w_others : (i j : ℕ) → (i ≡ s → j ≢ to) → turn_in n i j (event_after a done s) ≡ None
    w_others i j ne = no_turn n i j (event_after a done s)
        (λ z. let m = writer_means n i j (record { who = s; number = hl.r }) (ap (turn_in n i j) (sym w_event) ∙ z) in
        let q : hl.r / 5 - (n - 1) ≡ wn = let f = w_fifth in let g = row_done.2 in omega arith in
        ne (sym m.0) (sym m.2 ∙ ap (other i) q ∙ ap (λ y. other y wn) (sym m.0)))
        (λ z.
        let m = reader_means n i j (record { who = s; number = hl.r }) (ap (turn_in n i j) (sym w_event) ∙ z) in
        let g : hl.r / 5 < n - 1 = m.1 in
        let c : n ≤ dw + 1 = row_done.0 in
        let f = w_fifth in
        omega arith)

    abbrev w_next : Progress R
    w_next = posted (board_size b) (next_write wc.writer) line

    w_after : after_event b s w ≡ record b {
      cells = set b.cells (cell_place n s to) (after_write wc.writer line.own wc);
      lines = set b.lines s w_next;
    }
    w_after =
        let sz : board_size b ≡ n = h.size in
        let c : slice_get b.cells (cell_place (board_size b) s (other s (line.done + 1 - board_size b))) ≡ Some wc =
        ap (λ z. slice_get b.cells (cell_place z s (other s (line.done + 1 - z)))) sz
        ∙ h.cells s to ls lto (λ z. other_differs s wn (sym z)) in
        post_is b s w line wc there (let q : n ≤ dw + 1 = row_done.0 in omega arith) c
        ∙ ap (λ z.
        let x : Board R = record b {
          cells = set b.cells (cell_place z s (other s (line.done + 1 - z))) (after_write wc.writer line.own wc);
          lines = set b.lines s w_next;
        } in
        x) sz

    -- what the cell takes is what the operation chose
    takes : after_write wc.writer line.own wc ≡ (then_step (chosen s) written Writer (at + length done)).cell
    takes = elim (cases_eq hl.r (dw * 5)) [
      | inl z ↦
          let own : line.own ≡ chosen s hl.k = hl.late phase in
          let item : line.own ≡ chosen s (length written.write_slots) = own ∙ ap (chosen s) (sym (w_first z).1) in
          ap (λ x. after_write wc.writer x wc) item
      | inr ne ↦ item_ignored wc.writer line.own (chosen s (length written.write_slots)) wc
          (let x : hl.r - dw * 5 + left wc.writer ≡ 5 = (w_later ne).0 in
          let y = w_small in
          omega arith)
    ]

    w_steps : steps_of s (done ++ s ∷ []) ≡ hl.k * a + (hl.r + 1)
    w_steps =
        let e : steps_of s (done ++ s ∷ []) ≡ steps_of s done + 1 = steps_mine s done in
        let c : steps_of s done ≡ hl.k * a + hl.r = hl.steps in
        omega arith

    w_goes_on : hl.r ≢ dw * 5 + 4 → IsLineAt (done ++ s ∷ []) s w_next
    w_goes_on ne =
        let lo : dw * 5 ≤ hl.r = hl.low in
        let hi : hl.r < dw * 5 + 5 = hl.high in
        let row = row_done in
        let l1 : wn + 1 < n = row.1 in
        let l2 : n - 1 + wn ≡ dw = row.2 in
        let not_one : left wc.writer ≢ 1 = elim (cases_eq hl.r (dw * 5)) [
          | inl z ↦ (λ o. let x : left wc.writer ≡ 0 = (w_first z).0 in omega arith)
          | inr nz ↦ (λ o. let x : hl.r - dw * 5 + left wc.writer ≡ 5 = (w_later nz).0 in ne (omega arith))
        ] in
        let is : w_next ≡ line = posted_within (board_size b) wc.writer line not_one in
        subst (λ z. IsLineAt (done ++ s ∷ []) s z) (sym is) (base.same_line at span opening noise two accesses chosen outcomes done s line
        hl (omega arith) (omega arith) (omega arith) (inl phase))

    w_ends : hl.r ≡ dw * 5 + 4 → IsLineAt (done ++ s ∷ []) s w_next
    w_ends full =
        let row = row_done in
        let l1 : wn + 1 < n = row.1 in
        let l2 : n - 1 + wn ≡ dw = row.2 in
        let x : hl.r - dw * 5 + left wc.writer ≡ 5 = (w_later (λ z. omega arith)).0 in
        let one : left wc.writer ≡ 1 = omega arith in
        let is : w_next ≡ record line { done = if nat_eq (dw + 3) (2 * board_size b) then 0 else dw + 1 } =
        posted_last (board_size b) wc.writer line one in
        let sz : board_size b ≡ n = h.size in
        let own : line.own ≡ chosen s hl.k = hl.late phase in
        elim (cases_eq (dw + 3) (2 * n)) [
          | inl last ↦
              let t : nat_eq (dw + 3) (2 * board_size b) ≡ true = same (dw + 3) (2 * board_size b) (last ∙ ap (λ z. 2 * z) (sym sz)) in
              let is' : w_next ≡ record line { done = 0 } =
              is ∙ ap (λ c. let y : Progress R = record line { done = if c then 0 else dw + 1 } in y) t in
              let e : steps_of s (done ++ s ∷ []) ≡ hl.k * a + (hl.r + 1) = w_steps in
              let nx : (hl.k + 1) * a ≡ hl.k * a + a = omega arith in
              let x : IsLineAt (done ++ s ∷ []) s (record line { done = 0 }) = record {
                k = hl.k + 1;
                r = 0;
                steps = omega arith;
                inside = omega arith;
                low = omega arith;
                high = omega arith;
                early = λ l. own ∙ sym (base.before_next at span opening noise two accesses chosen outcomes s hl.k);
                late = λ l. absurd (omega arith);
                outcome = λ l. absurd (omega arith);
                wish = λ q l. absurd (omega arith);
                answers = [];
                hears = λ q l. absurd (omega arith);
                seen = λ q l. absurd (omega arith);
              } in
              subst (λ z. IsLineAt (done ++ s ∷ []) s z) (sym is') x
          | inr more_left ↦
              let t : nat_eq (dw + 3) (2 * board_size b) ≡ false =
              not_same (dw + 3) (2 * board_size b) (λ z. more_left (z ∙ ap (λ y. 2 * y) sz)) in
              let is' : w_next ≡ record line { done = dw + 1 } =
              is ∙ ap (λ c. let y : Progress R = record line { done = if c then 0 else dw + 1 } in y) t in
              let e : steps_of s (done ++ s ∷ []) ≡ hl.k * a + (hl.r + 1) = w_steps in
              let x : IsLineAt (done ++ s ∷ []) s (record line { done = dw + 1 }) = record {
                k = hl.k;
                r = hl.r + 1;
                steps = e;
                inside = omega arith;
                low = omega arith;
                high = omega arith;
                early = λ l. absurd (omega arith);
                late = λ l. own;
                outcome = λ l. hl.outcome phase;
                wish = λ q l. absurd (omega arith);
                answers = [];
                hears = λ q l. absurd (omega arith);
                seen = λ q l. absurd (omega arith);
              } in
              subst (λ z. IsLineAt (done ++ s ∷ []) s z) (sym is') x
        ]

    w_line : IsLineAt (done ++ s ∷ []) s w_next
    w_line = elim (cases_eq hl.r (dw * 5 + 4)) [ inl full ↦ w_ends full | inr ne ↦ w_goes_on ne ]

    w_saws : (i k : ℕ) → k * a + ch < steps_of i (done ++ s ∷ []) → Saw (done ++ s ∷ []) i k
    w_saws i k l = elim (cases_lt (k * a + ch) (steps_of i done)) [
      | inl old ↦ base.stays_saw at span opening noise two accesses chosen outcomes done s i k (h.saws i k old)
      | inr ge ↦ elim (cases_eq s i) [
        | inr ne ↦ absurd (let e : steps_of i (done ++ s ∷ []) ≡ steps_of i done = steps_other i s done ne in omega arith)
        | inl mine ↦
            let e : steps_of i (done ++ s ∷ []) ≡ hl.k * a + (hl.r + 1) = ap (λ z. steps_of z (done ++ s ∷ [])) (sym mine) ∙ w_steps in
            let e' : steps_of i done ≡ hl.k * a + hl.r = ap (λ z. steps_of z done) (sym mine) ∙ hl.steps in
            let eq : k * a + ch ≡ hl.k * a + hl.r = omega arith in
            let li : hl.r < a = hl.inside in
            let kk : k ≡ hl.k = same_operation_number a k hl.k ch hl.r eq (omega arith) li in
            let mul : k * a ≡ hl.k * a = ap (λ z. z * a) kk in
            absurd (omega arith)
      ]
    ]

    -- what the step shows of slots: at W1 that of this access, and nothing else of this process
    pub row_slot : hl.r ≡ dw * 5 →
        slice_get (cell s to (done ++ s ∷ [])).write_slots hl.k ≡ Some (slot_number (after_write wc.writer line.own wc).write)
    row_slot z =
        let f = w_first z in
        let own : line.own ≡ chosen s (length written.write_slots) = hl.late phase ∙ ap (chosen s) (sym f.1) in
        let slot : ℕ = slot_number (after_write wc.writer (chosen s (length written.write_slots)) wc).write in
        ap (λ t. slice_get t.write_slots hl.k) (base.cell_on at span opening noise two accesses chosen outcomes s to done s
        ∙ ap (on (chosen s) written (at + length done)) w_turn)
        ∙ ap (λ xs. slice_get xs hl.k) (shown_write wc.writer written.write_slots slot f.0)
        ∙ get_last written.write_slots slot hl.k (sym f.1)
        ∙ ap (λ x. Some (slot_number (after_write wc.writer x wc).write)) (sym own)

    pub row_no_slot : hl.r ≢ dw * 5 → (cell s to (done ++ s ∷ [])).write_slots ≡ written.write_slots
    row_no_slot ne =
        let x : hl.r - dw * 5 + left wc.writer ≡ 5 = (w_later ne).0 in
        let small_one : hl.r - dw * 5 < 5 = w_small in
        ap (λ t. t.write_slots) (base.cell_on at span opening noise two accesses chosen outcomes s to done s
        ∙ ap (on (chosen s) written (at + length done)) w_turn)
        ∙ unshown_write wc.writer written.write_slots
        (slot_number (after_write wc.writer (chosen s (length written.write_slots)) wc).write) (omega arith)

    pub row_earlier : (k : ℕ) → k ≢ hl.k → slice_get (cell s to (done ++ s ∷ [])).write_slots k ≡ slice_get written.write_slots k
    row_earlier k ne = elim (cases_eq hl.r (dw * 5)) [
      | inr other_event ↦ ap (λ xs. slice_get xs k) (row_no_slot other_event)
      | inl z ↦
          let f = w_first z in
          let slot : ℕ = slot_number (after_write wc.writer (chosen s (length written.write_slots)) wc).write in
          let count : length written.write_slots ≡ hl.k = f.1 in
          ap (λ t. slice_get t.write_slots k) (base.cell_on at span opening noise two accesses chosen outcomes s to done s
          ∙ ap (on (chosen s) written (at + length done)) w_turn)
          ∙ ap (λ xs. slice_get xs k) (shown_write wc.writer written.write_slots slot f.0)
          ∙ get_pushed written.write_slots slot k (λ q. ne (omega arith))
    ]

    pub row_others : (i j : ℕ) → (i ≡ s → j ≢ to) → ((cell i j (done ++ s ∷ [])).read_slots ≡ (cell i j done).read_slots)
        × ((cell i j (done ++ s ∷ [])).write_slots ≡ (cell i j done).write_slots)
    row_others i j ne =
        let none = w_others i j ne in (
          base.read_slots_stay at span opening noise two accesses chosen outcomes done s i j (λ z. none-some Reader (sym none ∙ z)),
          base.write_slots_stay at span opening noise two accesses chosen outcomes done s i j (λ z. none-some Writer (sym none ∙ z)),
        )

    pub row_step : IsAt (done ++ s ∷ []) (after_event b s w)
    row_step =
        let x : IsAt (done ++ s ∷ []) (record b {
          cells = set b.cells (cell_place n s to) (after_write wc.writer line.own wc);
          lines = set b.lines s w_next;
        }) = record {
          size = length-set b.lines s w_next ∙ h.size;
          limit = h.limit;
          places = length-set b.cells (cell_place n s to) (after_write wc.writer line.own wc) ∙ h.places;
          cells = base.cells_after at span opening noise two accesses chosen outcomes done s s to Writer b.cells
              (after_write wc.writer line.own wc) ls lto h.places h.cells w_turn w_others takes;
          lines = λ i l e. elim (get_set b.lines s i w_next l e) [
            | inl q ↦ subst (λ z. IsLineAt (done ++ s ∷ []) z l) (sym q.0) (subst (λ z. IsLineAt (done ++ s ∷ []) s z) (sym q.1) w_line)
            | inr q ↦ base.stays_line at span opening noise two accesses chosen outcomes done s i l (λ z. q.0 (sym z)) (h.lines i l q.1)
          ];
          saws = w_saws;
        } in
        subst (λ z. IsAt (done ++ s ∷ []) z) (sym w_after) x
