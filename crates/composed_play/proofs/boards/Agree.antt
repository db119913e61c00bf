-- Two runs of one term of a composed board agree. The slots of a cell don't depend on the records in it; so its reads have the same
-- numbers in both, and what an operation saw was chosen before it: by induction over the positions.
use Rattle.std.proofs.Common.{◌≡◌, ℕ, zero, suc, ◌+◌, ◌-◌, ◌*◌, ◌<◌, ◌≤◌, List, [], ◌∷◌, length, slice_get, Option, None, Some, refl}
use Rattle.std.proofs.Common.{sym, subst, ◌∙◌, ap, arith, inl, inr}
use Rattle.std.specs.Option.{option_and_then}
use Rattle.std.proofs.lemmas.Bool.{cases_lt}
use Rattle.std.proofs.lemmas.Option.{same_Some, slice_get_within}
use Rattle.history_core.specs.declared.history.Op.{Op}
use Rattle.history_core.specs.declared.history.Kind.TheVariants.{Write as WriteKind, Read as ReadKind, Refused as RefusedKind}
use Rattle.history_core.specs.declared.wish.Wish.{Wish}
use Rattle.history_core.specs.declared.wish.Wish.TheVariants.{Write, Read}
use Rattle.history_core.specs.Schedules.{access_at, Follows, IsOperation, IsPlayed, planned, Span}
use Rattle.history_core.proofs.Played.{later_operation, same_operation_number}
use Rattle.history_core.proofs.Positions.{position_exists, position_made, position_once, positions_rise}
use Rattle.four_slot_core.specs.Accesses.{Accesses, IsFreshRead, IsSource}
use Rattle.four_slot_core.specs.Traces.{Moment, source_record, trace}
use Rattle.history_core.proofs.Times.{of_before}
use Rattle.matrix_core.specs.Stamps.{greatest}
use Rattle.four_slot_core.proofs.traces.Mapped.{trace_mapped}
use Rattle.matrix_core.specs.declared.stamp.Stamp.{Stamp}
use Rattle.matrix_core.specs.declared.stamp.Stamped.{Stamped}
use Rattle.composed_play.specs.Boards.{cell_moments, cell_trace, column_accesses, IsBoardRun, noise_record, row_accesses, SeesCells}
use Rattle.matrix_core.specs.ByAccesses.{choice_at, chooses_at, IsCut}
use Rattle.matrix_core.specs.Choices.{Choice, ChoosesByKind}
use Rattle.matrix_core.specs.Lines.{first_record, other}
use Rattle.matrix_core.proofs.lines.Others.{other_differs, other_inside, other_reached}
use Rattle.composed_play.proofs.boards.Runs.{board_numbers}
use Rattle.matrix_core.proofs.choices.ByAccesses.{event_before, event_upto}

-- the slots of a cell by the positions of its steps alone

write_slots_same : {X : Type 0} (opening noise : X) (items others : ℕ → X) (ms : List Moment) →
    (trace opening noise items ms).write_slots ≡ (trace opening noise others ms).write_slots
write_slots_same opening noise items others ms = sym (ap (λ t. t.write_slots) (trace_mapped (λ x. tt {0}) opening noise items ms))
    ∙ ap (λ t. t.write_slots) (trace_mapped (λ x. tt {0}) opening noise others ms)

read_slots_same : {X : Type 0} (opening noise : X) (items others : ℕ → X) (ms : List Moment) →
    (trace opening noise items ms).read_slots ≡ (trace opening noise others ms).read_slots
read_slots_same opening noise items others ms = sym (ap (λ t. t.read_slots) (trace_mapped (λ x. tt {0}) opening noise items ms))
    ∙ ap (λ t. t.read_slots) (trace_mapped (λ x. tt {0}) opening noise others ms)

-- a read has one source
source_least : (w r : Accesses) (m a b : ℕ) → IsSource w r m a → IsSource w r m b → b ≤ a
source_least w r m a zero h g = omega arith
source_least w r m a (suc b) h g = let l : b < a = h.above b (g.filled b (omega arith)) in omega arith

source_once : (w r : Accesses) (m a b : ℕ) → IsSource w r m a → IsSource w r m b → a ≡ b
source_once w r m a b h g = let x : b ≤ a = source_least w r m a b h g in let y : a ≤ b = source_least w r m b a g h in omega arith

-- lists of one length whose elements agree
same_lists : {X : Type 0} (xs ys : List X) → length xs ≡ length ys →
    ((i : ℕ) (x y : X) → slice_get xs i ≡ Some x → slice_get ys i ≡ Some y → x ≡ y) → xs ≡ ys
same_lists [] [] l h = refl
same_lists [] (y ∷ ys) l h = absurd (omega arith)
same_lists (x ∷ xs) [] l h = absurd (omega arith)
same_lists (x ∷ xs) (y ∷ ys) l h =
    ap (λ z. z ∷ xs) (h 0 x y refl refl) ∙ ap (λ zs. y ∷ zs) (same_lists xs ys (omega arith) (λ i a b ea eb. h (suc i) a b ea eb))

module _ {R : Type 0} where
  both_same : (s t : Stamped R) → s.stamp ≡ t.stamp → s.item ≡ t.item → s ≡ t
  both_same s t e f = ap (λ z.
      let x : Stamped R = record { stamp = z; item = s.item } in
      x) e ∙ ap (λ z.
      let x : Stamped R = record { stamp = t.stamp; item = z } in
      x) f

  -- what is chosen by kind is one record, where the same was seen and planned
  picks_one : (limit : ℕ) (c d : Choice R) (wish : Option (Wish R)) (op other_op : Op R) (s t seen : Stamped R) → c.who ≡ d.who →
      c.stamp ≡ s.stamp → c.item ≡ s.item → d.stamp ≡ t.stamp → d.item ≡ t.item
      → Follows wish op → Follows wish other_op → ChoosesByKind limit c op.kind seen.stamp seen.item →
      ChoosesByKind limit d other_op.kind seen.stamp seen.item
      → (op.kind ≡ WriteKind → op.item ≡ Some s.item) → (other_op.kind ≡ WriteKind → other_op.item ≡ Some t.item) → s ≡ t
  picks_one limit c d None op other_op s t seen who cs ci ds di f g h k w v = absurd f
  picks_one limit c d (Some Read) op other_op s t seen who cs ci ds di f g h k w v =
      let x : ChoosesByKind limit c ReadKind seen.stamp seen.item = subst (λ z. ChoosesByKind limit c z seen.stamp seen.item) f h in
      let y : ChoosesByKind limit d ReadKind seen.stamp seen.item = subst (λ z. ChoosesByKind limit d z seen.stamp seen.item) g k in
      both_same s t (sym cs ∙ x.0 ∙ sym y.0 ∙ ds) (sym ci ∙ x.1 ∙ sym y.1 ∙ di)
  picks_one limit c d (Some (Write value)) op other_op s t seen who cs ci ds di f g h k w v = elim f [
    | inl a ↦
        let x : ChoosesByKind limit c WriteKind seen.stamp seen.item = subst (λ z. ChoosesByKind limit c z seen.stamp seen.item) a.0 h in
        elim g [
          | inl b ↦
              let y : ChoosesByKind limit d WriteKind seen.stamp seen.item =
              subst (λ z. ChoosesByKind limit d z seen.stamp seen.item) b.0 k in
              both_same s t (sym cs ∙ x.1 ∙ ap (λ z.
              let q : Stamp = record { tag = seen.stamp.tag + 1; writer = z } in
              q) who ∙ sym y.1 ∙ ds)
              (same_Some s.item t.item (sym (w a.0) ∙ a.1 ∙ sym b.1 ∙ v b.0))
          | inr b ↦
              let y : ChoosesByKind limit d RefusedKind seen.stamp seen.item =
              subst (λ z. ChoosesByKind limit d z seen.stamp seen.item) b k in
              absurd (let l : seen.stamp.tag < limit = x.0 in let m : limit ≤ seen.stamp.tag = y.0 in omega arith)
        ]
    | inr a ↦
        let x : ChoosesByKind limit c RefusedKind seen.stamp seen.item = subst (λ z. ChoosesByKind limit c z seen.stamp seen.item) a h in
        elim g [
          | inl b ↦
              let y : ChoosesByKind limit d WriteKind seen.stamp seen.item =
              subst (λ z. ChoosesByKind limit d z seen.stamp seen.item) b.0 k in
              absurd (let l : seen.stamp.tag < limit = y.0 in let m : limit ≤ seen.stamp.tag = x.0 in omega arith)
          | inr b ↦
              let y : ChoosesByKind limit d RefusedKind seen.stamp seen.item =
              subst (λ z. ChoosesByKind limit d z seen.stamp seen.item) b k in
              both_same s t (sym cs ∙ x.1 ∙ sym y.1 ∙ ds) (sym ci ∙ x.2 ∙ sym y.2 ∙ di)
        ]
  ]

module _ {R : Type 0} (at : ℕ) (span : Span R) (opening noise : R) (cut : IsCut 5 span) (ops ops2 : List (Op R))
    (stamps stamps2 : List (Option Stamp)) (slot slot2 : ℕ → ℕ → ℕ → Option ℕ) (chosen chosen2 : ℕ → ℕ → Stamped R)
    (played : IsPlayed at span ops) (played2 : IsPlayed at span ops2) (run : IsBoardRun at span opening noise ops stamps slot chosen)
    (run2 : IsBoardRun at span opening noise ops2 stamps2 slot2 chosen2) where
  abbrev n : ℕ
  n = length span.plans

  abbrev a : ℕ
  a = span.accesses

  abbrev ch : ℕ
  ch = (n - 2) * 5 + 4

  accesses_are : a ≡ (2 * (n - 1)) * 5
  accesses_are = cut.accesses

  row_same : (i write k : ℕ) → slot i k (n - 1 + write) ≡ slot2 i k (n - 1 + write)
  row_same i write k = run.row_slots i write k ∙ ap (λ xs. slice_get xs k)
      (write_slots_same (first_record opening) (noise_record noise) (chosen i) (chosen2 i) (cell_moments at span i (other i write)))
      ∙ sym (run2.row_slots i write k)

  column_same : (j read k : ℕ) → read + 1 < n → slot j k read ≡ slot2 j k read
  column_same j read k l =
      run.column_slots j read k l
      ∙ ap (λ xs. slice_get xs k) (read_slots_same (first_record opening) (noise_record noise) (chosen (other j read))
      (chosen2 (other j read)) (cell_moments at span (other j read) j))
      ∙ sym (run2.column_slots j read k l)

  -- the slots agree
  pub slots_agree : (i k access : ℕ) → access < 2 * (n - 1) → slot i k access ≡ slot2 i k access
  slots_agree i k access l = elim (cases_lt access (n - 1)) [
    | inl c ↦ column_same i access k (omega arith)
    | inr g ↦
        let e : n - 1 + (access - (n - 1)) ≡ access = omega arith in
        subst (λ z. slot i k z ≡ slot2 i k z) e (row_same i (access - (n - 1)) k)
  ]

  -- the source of a read is one in both
  numbers_agree : (i j write read m x y : ℕ) → read + 1 < n →
      IsFreshRead (row_accesses at span slot i write) (column_accesses at span slot j read) m x →
      IsFreshRead (row_accesses at span slot2 i write) (column_accesses at span slot2 j read) m y → x ≡ y
  numbers_agree i j write read m x y l f g =
      source_once (row_accesses at span slot i write) (column_accesses at span slot j read) m x y f.source (record {
        above = λ k h. g.source.above k ((h.0.0, sym (row_same i write k) ∙ h.0.1, sym (column_same j read m l) ∙ h.0.2), h.1);
        filled = λ k e. let h = g.source.filled k e in ((h.0.0, row_same i write k ∙ h.0.1, column_same j read m l ∙ h.0.2), h.1);
      })

  -- a choice of one process after another of its choices
  choice_before : (i k t : ℕ) → chooses_at at span 5 i (suc k) ≡ Some t → (q : ℕ) × (chooses_at at span 5 i k ≡ Some q) × (q < t)
  choice_before i k t h =
      let two : 2 ≤ n = cut.at_least in
      let acc = accesses_are in
      let up : k * a + a ≤ suc k * a = later_operation a k (suc k) (omega arith) in
      let made = position_made at i span.steps (suc k * a + ch) t h in
      let x = position_exists at i span.steps (k * a + ch) (omega arith) in
      (x.0, x.1, positions_rise at i span.steps (k * a + ch) (suc k * a + ch) x.0 t x.1 h (omega arith))

  module _ (t : ℕ) (past : (i k q : ℕ) → chooses_at at span 5 i k ≡ Some q → q < t → chosen i k ≡ chosen2 i k) (i k : ℕ)
      (now : chooses_at at span 5 i k ≡ Some t) where
    own_agree : (m : ℕ) → m ≡ k → source_record (first_record opening) (chosen i) m ≡ source_record (first_record opening) (chosen2 i) m
    own_agree zero e = refl
    own_agree (suc m) e = let q = choice_before i m t (ap (chooses_at at span 5 i) e ∙ now) in past i m q.0 q.1 q.2

    -- a record that was read was chosen before
    source_agree : (read write x : ℕ) → read + 1 < n →
        IsFreshRead (row_accesses at span slot (other i read) write) (column_accesses at span slot i read) k x
        → source_record (first_record opening) (chosen (other i read)) x ≡ source_record (first_record opening) (chosen2 (other i read)) x
    source_agree read write zero l f = refl
    source_agree read write (suc m) l f =
        let two : 2 ≤ n = cut.at_least in
        let b = of_before ((row_accesses at span slot (other i read) write).at m 0) ((column_accesses at span slot i read).at k 4)
        (f.read_of.begun m (omega arith)) in
        let r = event_upto at span i k (read * 5 + 4) ch t (omega arith) now in
        let l1 : b.0 < r.0 = b.2 r.0 r.1 in
        let c = event_before at span (other i read) m ch ((n - 1 + write) * 5 + 0) b.0 (omega arith) b.1 in
        let l2 : r.0 ≤ t = r.2 in
        let l3 : c.0 < b.0 = c.2 in
        past (other i read) m c.0 c.1 (omega arith)

    first_step : (p : ℕ) × (access_at at span i k 0 ≡ Some p) × (p ≤ t)
    first_step = event_upto at span i k 0 ch t (omega arith) now

    -- the operation of this number in each
    record Its (all : List (Op R)) : Type 0 where
      p : ℕ
      op : Op R
      there : slice_get all p ≡ Some op
      actor : op.who ≡ i
      is : IsOperation at span k op

    its_op : (all : List (Op R)) → IsPlayed at span all → Its all
    its_op all all_played =
        let two : 2 ≤ n = cut.at_least in
        let acc = accesses_are in
        let x = all_played.all i k first_step.0 first_step.1 in
        let o = all_played.each x.0 x.1 x.2 in
        let b : access_at at span i o.0 0 ≡ Some first_step.0 = ap (λ w. access_at at span w o.0 0) (sym x.3) ∙ o.1.begins ∙ ap Some x.4 in
        let once : o.0 * a + 0 ≡ k * a + 0 = position_once at i span.steps (o.0 * a + 0) (k * a + 0) first_step.0 b first_step.1 in
        let ok : o.0 ≡ k = same_operation_number a o.0 k 0 0 once (omega arith) (omega arith) in
        record { p = x.0; op = x.1; there = x.2; actor = x.3; is = subst (λ z. IsOperation at span z x.1) ok o.1 }

    -- its process is one of the board's
    acting : (all : List (Op R)) → Its all → i < n
    acting all o = by (slice_get span.plans o.op.who) refl
      where
        by : (plan : Option (List (Wish R))) → slice_get span.plans o.op.who ≡ plan → i < n
        by None e =
            absurd (subst (λ (z : Option (Wish R)). Follows z o.op) (ap (option_and_then (λ plan. slice_get plan k)) e) o.is.follows)
        by (Some plan) e =
            let l : o.op.who < n = slice_get_within span.plans o.op.who plan e in
            let w : o.op.who ≡ i = o.actor in
            omega arith

    chosen_agree : chosen i k ≡ chosen2 i k
    chosen_agree =
        let o : Its ops = its_op ops played in
        let o2 : Its ops2 = its_op ops2 played2 in
        let h : chooses_at at span 5 o.op.who k ≡ Some t = ap (λ z. chooses_at at span 5 z k) o.actor ∙ now in
        let h2 : chooses_at at span 5 o2.op.who k ≡ Some t = ap (λ z. chooses_at at span 5 z k) o2.actor ∙ now in
        let c : Choice R = choice_at chosen o.p k o.op in
        let d : Choice R = choice_at chosen2 o2.p k o2.op in
        let s : SeesCells at span opening noise chosen c k = run.sees o.p k t o.op o.there o.is h in
        let s2 : SeesCells at span opening noise chosen2 d k = run2.sees o2.p k t o2.op o2.there o2.is h2 in
        let li : i < n = acting ops o in
        let e1 : length s.answers + 1 ≡ n = s.each in
        let e2 : length s2.answers + 1 ≡ n = s2.each in
        let answers : s.answers ≡ s2.answers = same_lists s.answers s2.answers (omega arith) (λ read x y ex ey.
        let lx : read < length s.answers = slice_get_within s.answers read x ex in
        let lr : read + 1 < n = omega arith in
        let back = other_reached n (other i read) i (other_inside n i read li lr) li (λ z. other_differs i read (sym z)) in
        let ax : slice_get (cell_trace at span opening noise chosen (other i read) i).answers k ≡ Some x =
        subst (λ z. slice_get (cell_trace at span opening noise chosen (other z read) z).answers k ≡ Some x) o.actor
        (s.answered read x ex) in
        let ay : slice_get (cell_trace at span opening noise chosen2 (other i read) i).answers k ≡ Some y =
        subst (λ z. slice_get (cell_trace at span opening noise chosen2 (other z read) z).answers k ≡ Some y) o2.actor
        (s2.answered read y ey) in
        let nx =
        board_numbers at span opening noise ops stamps slot chosen cut run (other i read) i back.0 read back.2 back.1 refl lr k x ax in
        let ny = board_numbers at span opening noise ops2 stamps2 slot2 chosen2 cut run2 (other i read) i back.0 read back.2
        back.1 refl lr k y ay in
        let num : nx.0 ≡ ny.0 = numbers_agree (other i read) i back.0 read k nx.0 ny.0 lr nx.1 ny.1 in
        nx.2 ∙ source_agree read back.0 nx.0 lr nx.1 ∙ ap (source_record (first_record opening) (chosen2 (other i read))) num ∙ sym ny.2) in
        let seen : Stamped R = greatest (source_record (first_record opening) (chosen o.op.who) k) s.answers in
        let seen2 : Stamped R = greatest (source_record (first_record opening) (chosen2 o2.op.who) k) s2.answers in
        let same_seen : seen2 ≡ seen =
        ap (λ z. greatest (source_record (first_record opening) (chosen2 z) k) s2.answers) o2.actor
        ∙ ap (greatest (source_record (first_record opening) (chosen2 i) k)) (sym answers)
        ∙ ap (λ z. greatest z s.answers) (sym (own_agree k refl))
        ∙ ap (λ z. greatest (source_record (first_record opening) (chosen z) k) s.answers) (sym o.actor) in
        picks_one span.limit c d (planned span i k) o.op o2.op (chosen i k) (chosen2 i k) seen (o.actor ∙ sym o2.actor)
        (ap (λ z. (chosen z k).stamp) o.actor) (ap (λ z. (chosen z k).item) o.actor) (ap (λ z. (chosen2 z k).stamp) o2.actor)
        (ap (λ z. (chosen2 z k).item) o2.actor)
        (subst (λ z. Follows (planned span z k) o.op) o.actor o.is.follows)
        (subst (λ z. Follows (planned span z k) o2.op) o2.actor o2.is.follows)
        s.by_kind (subst (λ (z : Stamped R). ChoosesByKind span.limit d o2.op.kind z.stamp z.item) same_seen s2.by_kind)
        (λ w. run.written o.p k t o.op o.there o.is h w ∙ ap (λ z. Some (chosen z k).item) o.actor)
        (λ w. run2.written o2.p k t o2.op o2.there o2.is h2 w ∙ ap (λ z. Some (chosen2 z k).item) o2.actor)

  chosen_upto : (end : ℕ) (i k q : ℕ) → chooses_at at span 5 i k ≡ Some q → q < end → chosen i k ≡ chosen2 i k
  chosen_upto zero i k q h l = absurd (omega arith)
  chosen_upto (suc end) i k q h l = chosen_agree q (λ j m p hp lp. chosen_upto end j m p hp (omega arith)) i k h

  -- what each operation chose agrees
  pub chosen_agrees : (i k t : ℕ) → chooses_at at span 5 i k ≡ Some t → chosen i k ≡ chosen2 i k
  chosen_agrees i k t h = chosen_upto (t + 1) i k t h (omega arith)

  -- and so do the stamps and answers that are told of it
  module _ (p q k : ℕ) (op op2 : Op R) (there : slice_get ops p ≡ Some op) (there2 : slice_get ops2 q ≡ Some op2)
      (is : IsOperation at span k op) (is2 : IsOperation at span k op2) (who : op.who ≡ op2.who) where
    pub stamps_agree : slice_get stamps p ≡ slice_get stamps2 q
    stamps_agree = by (chooses_at at span 5 op.who k) refl
      where
        by : (t : Option ℕ) → chooses_at at span 5 op.who k ≡ t → slice_get stamps p ≡ slice_get stamps2 q
        by None e = run.untold p k op there is e ∙ sym (run2.untold q k op2 there2 is2 (ap (λ z. chooses_at at span 5 z k) (sym who) ∙ e))
        by (Some t) e =
            run.told p k t op there is e
            ∙ ap (λ (z : Stamped R). Some (Some z.stamp)) (chosen_agrees op.who k t e)
            ∙ ap (λ z. Some (Some (chosen2 z k).stamp)) who
            ∙ sym (run2.told q k t op2 there2 is2 (ap (λ z. chooses_at at span 5 z k) (sym who) ∙ e))

    pub answers_agree : (end : ℕ) → op.ends ≡ Some end → op2.ends ≡ Some end → op.item ≡ op2.item
    answers_agree end e e2 =
        let two : 2 ≤ n = cut.at_least in
        let acc = accesses_are in
        let t = event_upto at span op.who k ch (a - 1) end (omega arith) (is.finishes ∙ e) in
        run.ended p k end op there is e
        ∙ ap (λ (z : Stamped R). Some z.item) (chosen_agrees op.who k t.0 t.1)
        ∙ ap (λ z. Some (chosen2 z k).item) who
        ∙ sym (run2.ended q k end op2 there2 is2 e2)
