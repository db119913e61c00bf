-- The steps of each cell of a composed board: a side's steps of the cell are those of its process that the accesses of the cell are
-- made of. So the positions of the cell's accesses are those of the schedule, and the cell's freshness is what the order needs.
use Rattle.std.proofs.Common.{◌≡◌, ◌≢◌, ℕ, suc, ◌+◌, ◌-◌, ◌*◌, ◌/◌, ◌%◌, ◌<◌, ◌≤◌, List, [], ◌∷◌, ◌++◌, length, slice_get, Option}
use Rattle.std.proofs.Common.{None, Some, Bool, true, false, nat_eq, refl, sym, subst, ◌∙◌, ap, arith, inl, inr, append-nil}
use Rattle.std.proofs.Common.{append_assoc}
use Rattle.std.specs.Prelude.{◌&&◌, nat_le, nat_lt, if◌then◌else◌}
use Rattle.std.proofs.lemmas.Bool.{cases_Bool, cases_eq, cases_lt}
use Rattle.std.proofs.lemmas.Bool.Decides.{nat_tests}
use Rattle.std.proofs.lemmas.Nat.{div-add-mod'}
use Rattle.std.proofs.lemmas.Option.{none-some}
use Rattle.history_core.proofs.Folds.{fold_keeps_all}
use Rattle.history_core.proofs.Positions.{positions_length, positions_mine, positions_other}
use Rattle.history_core.specs.Schedules.{access_at, positions, Span, steps_of}
use Rattle.four_slot_core.specs.declared.schedule.Turn.{Turn}
use Rattle.four_slot_core.specs.declared.schedule.Turn.TheVariants.{Writer, Reader}
use Rattle.four_slot_core.specs.Accesses.{IsFreshRead}
use Rattle.history_core.specs.Registers.{IsBefore, IsReadOf}
use Rattle.four_slot_core.specs.Traces.{Moment, moment_at, moments_of, reads_of, RisesFrom, source_record, then_step, Trace, trace}
use Rattle.four_slot_core.specs.Traces.{writes_of}
use Rattle.four_slot_core.proofs.traces.Laws.{moments_of_more, moments_of_rise, trace_more, traces_fresh}
use Rattle.matrix_core.specs.declared.stamp.Stamped.{Stamped}
use Rattle.matrix_core.specs.Lines.{first_record, other}
use Rattle.matrix_core.specs.ByAccesses.{column, row}
use Rattle.composed_play.specs.Boards.{cell_moments, cell_trace, Event, event_after, events_after, is_read_of, is_write_of}
use Rattle.composed_play.specs.Boards.{noise_record}
use Rattle.composed_play.specs.Boards.{turn_in}
use Rattle.matrix_core.proofs.lines.Others.{other_above, other_below, other_differs}
use Rattle.composed_play.proofs.boards.CellPlaces.{AreFives, no_fives, none_of_five, one_of_five}
use Rattle.matrix_core.proofs.lists.Elements.{not_same, same}

-- one more step, one more event
pub events_more : (a : ℕ) (done xs : List ℕ) (s : ℕ) →
    events_after a done (xs ++ s ∷ []) ≡ events_after a done xs ++ event_after a (done ++ xs) s ∷ []
events_more a done [] s = ap (λ ys. event_after a ys s ∷ []) (sym (append-nil done))
events_more a done (x ∷ xs) s =
    ap (λ es. event_after a done x ∷ es) (events_more a (done ++ x ∷ []) xs s)
    ∙ ap (λ ys. event_after a done x ∷ (events_after a (done ++ x ∷ []) xs ++ event_after a ys s ∷ [])) (append_assoc done (x ∷ []) xs)

events_length : (a : ℕ) (done xs : List ℕ) → length (events_after a done xs) ≡ length xs
events_length a done [] = refl
events_length a done (x ∷ xs) = ap suc (events_length a (done ++ x ∷ []) xs)

-- and where it is the cell's, one more of the cell's
pub cell_more : (a at : ℕ) (turn : Event → Option Turn) (done : List ℕ) (s : ℕ)
    → moments_of turn at (events_after a [] (done ++ s ∷ []))
    ≡ moments_of turn at (events_after a [] done) ++ moment_at (turn (event_after a done s)) (at + length done)
cell_more a at turn done s =
    ap (moments_of turn at) (events_more a [] done s)
    ∙ moments_of_more turn at (events_after a [] done) (event_after a done s)
    ∙ ap (λ n. moments_of turn at (events_after a [] done) ++ moment_at (turn (event_after a done s)) (at + n)) (events_length a [] done)

-- the steps of one side
abbrev pub side_of : {R : Type 0} → Turn → Trace R → List ℕ
side_of Writer t = t.writer
side_of Reader t = t.reader

same_side : {R : Type 0} (items : ℕ → R) (t : Trace R) (p : ℕ) (x : Turn) → side_of x (then_step items t x p) ≡ side_of x t ++ p ∷ []
same_side items t p Writer = refl
same_side items t p Reader = refl

other_side : {R : Type 0} (items : ℕ → R) (t : Trace R) (p : ℕ) (x y : Turn) → y ≢ x → side_of x (then_step items t y p) ≡ side_of x t
other_side items t p Writer Writer ne = absurd (ne refl)
other_side items t p Writer Reader ne = refl
other_side items t p Reader Writer ne = refl
other_side items t p Reader Reader ne = absurd (ne refl)

module _ {R : Type 0} (opening noise : R) (items : ℕ → R) where
  more_of_side : (ms : List Moment) (p : ℕ) (x : Turn) (o : Option Turn) → o ≡ Some x →
      side_of x (trace opening noise items (ms ++ moment_at o p)) ≡ side_of x (trace opening noise items ms) ++ p ∷ []
  more_of_side ms p x o e =
      ap (λ z. side_of x (trace opening noise items (ms ++ moment_at z p))) e
      ∙ ap (side_of x) (trace_more opening noise items ms (record { at = p; turn = x }))
      ∙ same_side items (trace opening noise items ms) p x

  none_of_side : (ms : List Moment) (p : ℕ) (x : Turn) (o : Option Turn) → o ≢ Some x →
      side_of x (trace opening noise items (ms ++ moment_at o p)) ≡ side_of x (trace opening noise items ms)
  none_of_side ms p x None ne = ap (λ zs. side_of x (trace opening noise items zs)) (append-nil ms)
  none_of_side ms p x (Some y) ne =
      ap (side_of x) (trace_more opening noise items ms (record { at = p; turn = y }))
      ∙ other_side items (trace opening noise items ms) p x y (λ e. ne (ap Some e))

  -- where a side's turns are five steps of each operation of a process, its steps are those
  pub side_fives : (a base at i : ℕ) (turn : Event → Option Turn) (x : Turn) → base + 5 ≤ a
      → ((r : ℕ) → base ≤ r → r < base + 5 → turn (record { who = i; number = r }) ≡ Some x)
      → ((e : Event) → turn e ≡ Some x → (e.who ≡ i) × (base ≤ e.number) × (e.number < base + 5))
      → (steps : List ℕ) →
      AreFives a base (side_of x (trace opening noise items (moments_of turn at (events_after a [] steps)))) (positions at i steps)
  side_fives a base at i turn x room yes_turn no_turn steps =
      fold_keeps_all {A = ℕ} {B = Unit {0}} (λ done u. AreFives a base
      (side_of x (trace opening noise items (moments_of turn at (events_after a [] done)))) (positions at i done)) (λ u s. u) tt steps
      (start x) (λ done rest u s whole h. step done s h)
    where
      start : (y : Turn) → AreFives a base (side_of y (trace opening noise items [])) []
      start Writer = no_fives a base (omega arith)
      start Reader = no_fives a base (omega arith)

      step : (done : List ℕ) (s : ℕ) →
          AreFives a base (side_of x (trace opening noise items (moments_of turn at (events_after a [] done)))) (positions at i done)
          → AreFives a base (side_of x (trace opening noise items (moments_of turn at (events_after a [] (done ++ s ∷ [])))))
          (positions at i (done ++ s ∷ []))
      step done s h =
          let ms : List Moment = moments_of turn at (events_after a [] done) in
          let p : ℕ = at + length done in
          let xs : List ℕ = side_of x (trace opening noise items ms) in
          let ps : List ℕ = positions at i done in
          let e : Event = event_after a done s in
          let next : moments_of turn at (events_after a [] (done ++ s ∷ [])) ≡ ms ++ moment_at (turn e) p = cell_more a at turn done s in
          elim (cases_eq s i) [
            | inr ne ↦
                let none : turn e ≢ Some x = λ z. ne (no_turn e z).0 in
                let is : side_of x (trace opening noise items (moments_of turn at (events_after a [] (done ++ s ∷ [])))) ≡ xs =
                ap (λ zs. side_of x (trace opening noise items zs)) next ∙ none_of_side ms p x (turn e) none in
                subst (λ ys. AreFives a base ys (positions at i (done ++ s ∷ []))) (sym is)
                (subst (λ qs. AreFives a base xs qs) (sym (positions_other at i s done ne)) h)
            | inl mine ↦
                let m : ℕ = steps_of i done / a in
                let r : ℕ = steps_of i done % a in
                let c : length ps ≡ m * a + r = positions_length at i done ∙ sym (div-add-mod' (steps_of i done) a) in
                let lr : r < a = omega arith in
                let ps' : positions at i (done ++ s ∷ []) ≡ ps ++ p ∷ [] =
                ap (λ z. positions at i (done ++ z ∷ [])) mine ∙ positions_mine at i done in
                let ei : e ≡ record { who = i; number = r } = ap (λ z. event_after a done z) mine in
                elim (cases_lt r base) [
                  | inl lo ↦
                      let none : turn e ≢ Some x = λ z.
                      let w = (no_turn (record { who = i; number = r }) (ap turn (sym ei) ∙ z)).1 in
                      omega arith in
                      let is : side_of x (trace opening noise items (moments_of turn at (events_after a [] (done ++ s ∷ [])))) ≡ xs =
                      ap (λ zs. side_of x (trace opening noise items zs)) next ∙ none_of_side ms p x (turn e) none in
                      subst (λ ys. AreFives a base ys (positions at i (done ++ s ∷ []))) (sym is)
                      (subst (λ qs. AreFives a base xs qs) (sym ps') (none_of_five a base room xs ps m r p c lr h (inl lo)))
                  | inr ge ↦ elim (cases_lt r (base + 5)) [
                    | inl hi ↦
                        let now : turn e ≡ Some x = ap turn ei ∙ yes_turn r ge hi in
                        let is : side_of x (trace opening noise items (moments_of turn at (events_after a [] (done ++ s ∷ []))))
                        ≡ xs ++ p ∷ [] = ap (λ zs. side_of x (trace opening noise items zs)) next ∙ more_of_side ms p x (turn e) now in
                        subst (λ ys. AreFives a base ys (positions at i (done ++ s ∷ []))) (sym is)
                        (subst (λ qs. AreFives a base (xs ++ p ∷ []) qs) (sym ps') (one_of_five a base room xs ps m r p c lr h ge hi))
                    | inr past ↦
                        let none : turn e ≢ Some x = λ z.
                        let w = (no_turn (record { who = i; number = r }) (ap turn (sym ei) ∙ z)).2 in
                        omega arith in
                        let is : side_of x (trace opening noise items (moments_of turn at (events_after a [] (done ++ s ∷ [])))) ≡ xs =
                        ap (λ zs. side_of x (trace opening noise items zs)) next ∙ none_of_side ms p x (turn e) none in
                        subst (λ ys. AreFives a base ys (positions at i (done ++ s ∷ []))) (sym is)
                        (subst (λ qs. AreFives a base xs qs) (sym ps') (none_of_five a base room xs ps m r p c lr h (inr past)))
                  ]
                ]
          ]

-- whose turn an event is
pub both_true : (a b : Bool) → (a && b) ≡ true → (a ≡ true) × (b ≡ true)
both_true true b h = (refl, h)
both_true false b h = cc

pub from_eq : (a b : ℕ) → nat_eq a b ≡ true → a ≡ b
from_eq a b h = grind (arith, nat_tests)

pub from_le : (a b : ℕ) → nat_le a b ≡ true → a ≤ b
from_le a b h = grind (arith, nat_tests)

pub from_lt : (a b : ℕ) → nat_lt a b ≡ true → a < b
from_lt a b h = grind (arith, nat_tests)

to_le : (a b : ℕ) → a ≤ b → nat_le a b ≡ true
to_le a b h = grind (arith, nat_tests)

to_lt : (a b : ℕ) → a < b → nat_lt a b ≡ true
to_lt a b h = grind (arith, nat_tests)

other_once : (i x y : ℕ) → other i x ≡ other i y → x ≡ y
other_once i x y e = elim (cases_lt x i) [
  | inl lx ↦ let ex : other i x ≡ x = other_below i x lx in elim (cases_lt y i) [
    | inl ly ↦ let ey : other i y ≡ y = other_below i y ly in omega arith
    | inr gy ↦ let ey : other i y ≡ y + 1 = other_above i y gy in omega arith
  ]
  | inr gx ↦ let ex : other i x ≡ x + 1 = other_above i x gx in elim (cases_lt y i) [
    | inl ly ↦ let ey : other i y ≡ y = other_below i y ly in omega arith
    | inr gy ↦ let ey : other i y ≡ y + 1 = other_above i y gy in omega arith
  ]
]

module _ (n i j : ℕ) where
  pub first_turn : (e : Event) (b : Bool) → is_write_of n i j e ≡ b →
      turn_in n i j e ≡ (if b then Some Writer else (if is_read_of n i j e then Some Reader else None))
  first_turn e b h = ap (λ c. if c then Some Writer else (if is_read_of n i j e then Some Reader else None)) h

  pub second_turn : (e : Event) (b : Bool) → is_write_of n i j e ≡ false → is_read_of n i j e ≡ b →
      turn_in n i j e ≡ (if b then Some Reader else None)
  second_turn e b h g = first_turn e false h ∙ ap (λ c. if c then Some Reader else None) g

  pub writer_turn : (write r : ℕ) → other i write ≡ j → (n - 1 + write) * 5 ≤ r → r < (n - 1 + write) * 5 + 5 →
      turn_in n i j (record { who = i; number = r }) ≡ Some Writer
  writer_turn write r o lo hi =
      let d : r / 5 ≡ n - 1 + write = omega arith in
      let k : r / 5 - (n - 1) ≡ write = omega arith in
      let b : is_write_of n i j (record { who = i; number = r }) ≡ true
      = ap (λ c. c && (nat_le (n - 1) (r / 5) && nat_eq (other i (r / 5 - (n - 1))) j)) (same i i refl)
      ∙ ap (λ c. c && nat_eq (other i (r / 5 - (n - 1))) j) (to_le (n - 1) (r / 5) (omega arith))
      ∙ same (other i (r / 5 - (n - 1))) j (ap (other i) k ∙ o) in
      first_turn (record { who = i; number = r }) true b

  pub is_writer : (write : ℕ) (e : Event) → other i write ≡ j → turn_in n i j e ≡ Some Writer →
      (e.who ≡ i) × ((n - 1 + write) * 5 ≤ e.number) × (e.number < (n - 1 + write) * 5 + 5)
  is_writer write e o h = elim (cases_Bool (is_write_of n i j e)) [
    | inl t ↦
        let w = both_true (nat_eq e.who i) (nat_le (n - 1) (e.number / 5) && nat_eq (other i (e.number / 5 - (n - 1))) j) t in
        let v = both_true (nat_le (n - 1) (e.number / 5)) (nat_eq (other i (e.number / 5 - (n - 1))) j) w.1 in
        let le : n - 1 ≤ e.number / 5 = from_le (n - 1) (e.number / 5) v.0 in
        let k : e.number / 5 - (n - 1) ≡ write =
        other_once i (e.number / 5 - (n - 1)) write (from_eq (other i (e.number / 5 - (n - 1))) j v.1 ∙ sym o) in
        (from_eq e.who i w.0, omega arith, omega arith)
    | inr f ↦ elim (cases_Bool (is_read_of n i j e)) [
      | inl t ↦ let z : Some Reader ≡ Some Writer = sym (second_turn e true f t) ∙ h in cc
      | inr g ↦ absurd (none-some Writer (sym (second_turn e false f g) ∙ h))
    ]
  ]

  pub reader_turn : (read r : ℕ) → other j read ≡ i → read + 1 < n → read * 5 ≤ r → r < read * 5 + 5 →
      turn_in n i j (record { who = j; number = r }) ≡ Some Reader
  reader_turn read r o l lo hi =
      let d : r / 5 ≡ read = omega arith in
      let apart : j ≢ i = λ z. other_differs j read (o ∙ sym z) in
      let f : is_write_of n i j (record { who = j; number = r }) ≡ false
      = ap (λ c. c && (nat_le (n - 1) (r / 5) && nat_eq (other i (r / 5 - (n - 1))) j)) (not_same j i apart) in
      let b : is_read_of n i j (record { who = j; number = r }) ≡ true
      = ap (λ c. c && (nat_lt (r / 5) (n - 1) && nat_eq (other j (r / 5)) i)) (same j j refl)
      ∙ ap (λ c. c && nat_eq (other j (r / 5)) i) (to_lt (r / 5) (n - 1) (omega arith))
      ∙ same (other j (r / 5)) i (ap (other j) d ∙ o) in
      second_turn (record { who = j; number = r }) true f b

  pub is_reader : (read : ℕ) (e : Event) → other j read ≡ i → turn_in n i j e ≡ Some Reader →
      (e.who ≡ j) × (read * 5 ≤ e.number) × (e.number < read * 5 + 5)
  is_reader read e o h = elim (cases_Bool (is_write_of n i j e)) [
    | inl t ↦ let z : Some Writer ≡ Some Reader = sym (first_turn e true t) ∙ h in cc
    | inr f ↦ elim (cases_Bool (is_read_of n i j e)) [
      | inl t ↦
          let w = both_true (nat_eq e.who j) (nat_lt (e.number / 5) (n - 1) && nat_eq (other j (e.number / 5)) i) t in
          let v = both_true (nat_lt (e.number / 5) (n - 1)) (nat_eq (other j (e.number / 5)) i) w.1 in
          let k : e.number / 5 ≡ read = other_once j (e.number / 5) read (from_eq (other j (e.number / 5)) i v.1 ∙ sym o) in
          (from_eq e.who j w.0, omega arith, omega arith)
      | inr g ↦ absurd (none-some Reader (sym (second_turn e false f g) ∙ h))
    ]
  ]

-- positions that rise from somewhere rise from 0
pub rises_from_first : (n : ℕ) (ms : List Moment) → RisesFrom n ms → RisesFrom 0 ms
rises_from_first n [] h = tt
rises_from_first n (m ∷ ms) h = (omega arith, h.1)

module _ {R : Type 0} (at : ℕ) (span : Span R) (opening noise : R) (chosen : ℕ → ℕ → Stamped R)
    (cut : span.accesses ≡ (2 * (length span.plans - 1)) * 5) where
  abbrev trace_in : ℕ → ℕ → Trace (Stamped R)
  trace_in i j = cell_trace at span opening noise chosen i j

  -- the events of a cell's accesses have the positions that the schedule says
  pub write_at : (i j write k e : ℕ) → other i write ≡ j → write + 1 < length span.plans → e < 5 →
      (writes_of (trace_in i j)).at k e ≡ access_at at span i k ((length span.plans - 1 + write) * 5 + e)
  write_at i j write k e o l le =
      (side_fives (first_record opening) (noise_record noise) (chosen i) span.accesses ((length span.plans - 1 + write) * 5) at i
      (turn_in (length span.plans) i j) Writer (omega arith)
      (λ r. writer_turn (length span.plans) i j write r o) (λ d. is_writer (length span.plans) i j write d o) span.steps).same k e le

  pub read_at : (i j read k e : ℕ) → other j read ≡ i → read + 1 < length span.plans → e < 5 →
      (reads_of (trace_in i j)).at k e ≡ access_at at span j k (read * 5 + e)
  read_at i j read k e o l le =
      (side_fives (first_record opening) (noise_record noise) (chosen i) span.accesses (read * 5) at j
      (turn_in (length span.plans) i j) Reader (omega arith)
      (λ r. reader_turn (length span.plans) i j read r o l) (λ d. is_reader (length span.plans) i j read d o) span.steps).same k e le

  pub rises_in : (i j : ℕ) → RisesFrom 0 (cell_moments at span i j)
  rises_in i j = rises_from_first at (cell_moments at span i j)
      (moments_of_rise (turn_in (length span.plans) i j) at (events_after span.accesses [] span.steps))

  -- so each answer of a cell has a number, as the order needs it
  pub cell_numbers : (i j write read k : ℕ) (answer : Stamped R) → other i write ≡ j → write + 1 < length span.plans → other j read ≡ i →
      read + 1 < length span.plans → slice_get (trace_in i j).answers k ≡ Some answer
      → (n : ℕ) × IsReadOf (row at span 5 i write) (column at span 5 j read) k n
      × (answer ≡ source_record (first_record opening) (chosen i) n)
  cell_numbers i j write read k answer ow lw or lr h =
      let t : Trace (Stamped R) = trace_in i j in
      let f = traces_fresh (first_record opening) (noise_record noise) (chosen i) (cell_moments at span i j) (rises_in i j) k answer h in
      let fresh : IsFreshRead (writes_of t) (reads_of t) k f.0 = f.1 in (
        f.0,
        record {
          late = λ m b. fresh.read_of.late m (before m k 4 0 (omega arith) (omega arith) b);
          begun = λ m e. after m k 0 4 (omega arith) (omega arith) (fresh.read_of.begun m e);
        },
        f.2,
      )
    where
      first : (b : ℕ) →
          access_at at span i b ((length span.plans - 1 + write) * 5) ≡ access_at at span i b ((length span.plans - 1 + write) * 5 + 0)
      first b = ap (access_at at span i b) (omega arith)

      before : (m k d e : ℕ) → d < 5 → e < 5 → IsBefore ((row at span 5 i write).ends m) ((column at span 5 j read).begins k) →
          IsBefore ((writes_of (trace_in i j)).at m 4) ((reads_of (trace_in i j)).at k 0)
      before m k d e ld le b =
          let w : (writes_of (trace_in i j)).at m 4 ≡ (row at span 5 i write).ends m = write_at i j write m 4 ow lw (omega arith) in
          let r : (reads_of (trace_in i j)).at k 0 ≡ (column at span 5 j read).begins k =
          read_at i j read k 0 or lr (omega arith) ∙ ap (access_at at span j k) (let z : read * 5 + 0 ≡ read * 5 = omega arith in z) in
          subst (λ x. IsBefore x ((reads_of (trace_in i j)).at k 0)) (sym w)
          (subst (λ y. IsBefore ((row at span 5 i write).ends m) y) (sym r) b)

      after : (m k d e : ℕ) → d < 5 → e < 5 → IsBefore ((writes_of (trace_in i j)).at m 0) ((reads_of (trace_in i j)).at k 4) →
          IsBefore ((row at span 5 i write).begins m) ((column at span 5 j read).ends k)
      after m k d e ld le b =
          let w : (writes_of (trace_in i j)).at m 0 ≡ (row at span 5 i write).begins m =
          write_at i j write m 0 ow lw (omega arith) ∙ sym (first m) in
          let r : (reads_of (trace_in i j)).at k 4 ≡ (column at span 5 j read).ends k = read_at i j read k 4 or lr (omega arith) in
          subst (λ x. IsBefore x ((column at span 5 j read).ends k)) w (subst (λ y. IsBefore ((writes_of (trace_in i j)).at m 0) y) r b)
