-- In a trace from the opening, where write k takes a record with the number k + 1, each slot has the record of the last write
-- that filled it. So the answer of a read has the number of the read's source: its slot isn't filled while it is read.
use Rattle.std.proofs.Common.{◌≡◌, ◌≢◌, ℕ, ◌+◌, ◌*◌, ◌<◌, ◌≤◌, Bool, true, false, List, [], ◌∷◌, ◌++◌, length, slice_get, Option, Some}
use Rattle.std.proofs.Common.{refl, sym, subst, ◌∙◌, ap, ◌⊎◌, inl, inr, arith}
use Rattle.std.proofs.lemmas.Option.{same_Some, slice_get_within}
use Rattle.four_slot_core.specs.declared.state.Slot.{Slot}
use Rattle.four_slot_core.specs.declared.state.Sides.{Sides}
use Rattle.four_slot_core.specs.declared.state.State.{State}
use Rattle.four_slot_core.specs.declared.state.Stage.{Stage}
use Rattle.four_slot_core.specs.declared.state.Stage.TheVariants.{W1, W2, W3, W4, W5}
use Rattle.four_slot_core.specs.declared.state.ReaderStage.{ReaderStage}
use Rattle.four_slot_core.specs.declared.state.ReaderStage.TheVariants.{R1, R2, R3, R4, R5}
use Rattle.four_slot_core.specs.Accesses.{Fills, IsSource}
use Rattle.history_core.specs.Registers.{IsBefore}
use Rattle.history_core.proofs.Times.{of_before, to_before}
use Rattle.four_slot_core.specs.Events.{after_read, after_write, answer, opening_state, record_in, with_record, slot_number}
use Rattle.four_slot_core.specs.Freshness.{IsFreshAt, prev_after}
use Rattle.four_slot_core.specs.Invariant.{IsReading, IsUnderWay, HasIndex}
use Rattle.four_slot_core.specs.Traces.{Trace, shown_by_write, shown_by_read, answered_by_read, then_writer, then_reader, trace_start}
use Rattle.four_slot_core.specs.Traces.{writes_of, reads_of}
use Rattle.four_slot_core.proofs.events.Keeping.{reader_after}
use Rattle.four_slot_core.proofs.events.TwoSides.{bit_cases, same_slot_of, record_same, record_other}
use Rattle.four_slot_core.proofs.Pushed.{get_before, get_cases, get_last, get_within, same_get}
use Rattle.four_slot_core.proofs.traces.Counts.{left, made, has_chosen, HasWriteSlot, IsCounted}
use Rattle.four_slot_core.proofs.traces.Clear.{slot_by_number, write_slot_was, read_slot_was}
use Rattle.four_slot_core.proofs.traces.Fresh.{IsFreshTrace, write_was, write_stays, answers_was, answer_number}

-- write k has filled this slot: its slot write has ended there
abbrev pub HasFilled : List ℕ → List ℕ → ℕ → ℕ → Type 0
HasFilled writer slots slot k = (slice_get slots k ≡ Some slot) × ((p : ℕ) × (slice_get writer (k * 5 + 2) ≡ Some p))

-- the last write that has filled the slot has this number
pub record IsLastFill (writer slots : List ℕ) (slot n : ℕ) : Type 0 where
  pub above : (k : ℕ) → HasFilled writer slots slot k → k < n
  pub filled : (k : ℕ) → n ≡ k + 1 → HasFilled writer slots slot k

pub record IsSourced {R : Type 0} (num : R → ℕ) (t : Trace R) (prev : ℕ) : Type 0 where
  pub contents : (q : Slot) → IsLastFill t.writer t.write_slots (slot_number q) (num (record_in t.cell.records q))
  pub reading : IsReading t.cell.reader → (m : ℕ) → m ≡ length t.answers → IsSource (writes_of t) (reads_of t) m prev
  pub finished : (m : ℕ) (x : R) → slice_get t.answers m ≡ Some x → IsSource (writes_of t) (reads_of t) m (num x)

pub slot_cases : (p q : Slot) → (p ≡ q) ⊎ (p ≢ q)
slot_cases p q = elim (bit_cases p.pair q.pair) [
  | inr ne ↦ inr (λ e. ne (ap (λ (z : Slot). z.pair) e))
  | inl pe ↦ elim (bit_cases p.index q.index) [
    | inr ne ↦ inr (λ e. ne (ap (λ (z : Slot). z.index) e))
    | inl ie ↦ inl (same_slot_of p q.pair q.index pe ie)
  ]
]

last_fill_same : (xs ss ys ts : List ℕ) (slot n : ℕ) → ((k : ℕ) → HasFilled ys ts slot k → HasFilled xs ss slot k) →
    ((k : ℕ) → HasFilled xs ss slot k → HasFilled ys ts slot k) → IsLastFill xs ss slot n → IsLastFill ys ts slot n
last_fill_same xs ss ys ts slot n back forth h = record { above = λ k f. h.above k (back k f); filled = λ k e. forth k (h.filled k e) }

write_slot_kept : (w : Stage) (slots : List ℕ) (slot k x : ℕ) → slice_get slots k ≡ Some x →
    slice_get (shown_by_write w slots slot) k ≡ Some x
write_slot_kept W1 slots slot k x e = e
write_slot_kept W2 slots slot k x e = e
write_slot_kept W3 slots slot k x e = e
write_slot_kept W4 slots slot k x e = e
write_slot_kept W5 slots slot k x e = get_before slots slot k x e

read_slot_kept : (r : ReaderStage) (slots : List ℕ) (slot k x : ℕ) → slice_get slots k ≡ Some x →
    slice_get (shown_by_read r slots slot) k ≡ Some x
read_slot_kept R1 slots slot k x e = e
read_slot_kept R2 slots slot k x e = get_before slots slot k x e
read_slot_kept R3 slots slot k x e = e
read_slot_kept R4 slots slot k x e = e
read_slot_kept R5 slots slot k x e = e

fill_kept : (w : Stage) (xs slots : List ℕ) (at new slot k : ℕ) → HasFilled xs slots slot k →
    HasFilled (xs ++ at ∷ []) (shown_by_write w slots new) slot k
fill_kept w xs slots at new slot k h = (write_slot_kept w slots new k slot h.0, (h.1.0, get_before xs at (k * 5 + 2) h.1.0 h.1.1))

-- the new step is no W3
fill_was : (w : Stage) (xs slots : List ℕ) (at new slot k : ℕ) → length xs + left w ≡ length slots * 5 → left w ≢ 3 →
    HasFilled (xs ++ at ∷ []) (shown_by_write w slots new) slot k → HasFilled xs slots slot k
fill_was w xs slots at new slot k c ne h = elim (get_cases xs at (k * 5 + 2) h.1.0 h.1.1) [
  | inl old ↦
      let inside : k * 5 + 2 < length xs = slice_get_within xs (k * 5 + 2) h.1.0 old in
      (write_slot_was w slots new k slot (omega arith) h.0, (h.1.0, old))
  | inr here ↦ absurd (no w (length slots) (omega (arith, here.0)) ne)
]
  where
    no : (v : Stage) (n : ℕ) → (k * 5 + 2) + left v ≡ n * 5 → left v ≢ 3 → ⊥
    no W1 n e l = omega arith
    no W2 n e l = l refl
    no W3 n e l = omega arith
    no W4 n e l = omega arith
    no W5 n e l = omega arith

-- the slots after the writer's next event
abbrev pub HasContents : {R : Type 0} → (R → ℕ) → Sides (Sides R) → List ℕ → List ℕ → Type 0
HasContents num records writer slots = (q : Slot) → IsLastFill writer slots (slot_number q) (num (record_in records q))

contents_write : {R : Type 0} (w : Stage) (num : R → ℕ) (x : R) (s : State R) (xs slots : List ℕ) (at : ℕ) →
    length xs + left w ≡ length slots * 5 → HasWriteSlot w slots (slot_number s.write) → (IsUnderWay w → num s.item ≡ length slots) →
    HasContents num s.records xs slots →
    HasContents num (after_write w x s).records (xs ++ at ∷ []) (shown_by_write w slots (slot_number (after_write w x s).write))
contents_write W1 num x s xs slots at c hs ni h q = last_fill_same xs slots (xs ++ at ∷ []) slots (slot_number q) _
    (λ k. fill_was W1 xs slots at 0 (slot_number q) k c (λ e. omega arith)) (λ k. fill_kept W1 xs slots at 0 (slot_number q) k) (h q)
contents_write W3 num x s xs slots at c hs ni h q = last_fill_same xs slots (xs ++ at ∷ []) slots (slot_number q) _
    (λ k. fill_was W3 xs slots at 0 (slot_number q) k c (λ e. omega arith)) (λ k. fill_kept W3 xs slots at 0 (slot_number q) k) (h q)
contents_write W4 num x s xs slots at c hs ni h q = last_fill_same xs slots (xs ++ at ∷ []) slots (slot_number q) _
    (λ k. fill_was W4 xs slots at 0 (slot_number q) k c (λ e. omega arith)) (λ k. fill_kept W4 xs slots at 0 (slot_number q) k) (h q)
contents_write W5 num x s xs slots at c hs ni h q =
    let new : ℕ = slot_number (after_write W5 x s).write in
    last_fill_same xs slots (xs ++ at ∷ []) (slots ++ new ∷ []) (slot_number q) _ (λ k.
    fill_was W5 xs slots at new (slot_number q) k c (λ e. omega arith)) (λ k. fill_kept W5 xs slots at new (slot_number q) k) (h q)
contents_write {R} W2 num x s xs slots at c hs ni h q = elim (slot_cases q s.write) [
  | inl e ↦
      let here : num (record_in (with_record s.records s.write s.item) q) ≡ length slots =
      ap (λ p. num (record_in (with_record s.records s.write s.item) p)) e ∙ ap num (record_same s.records s.write s.item) ∙ ni tt in
      record {
        above = λ k f. let inside : k < length slots = slice_get_within slots k (slot_number q) f.0 in omega (arith, here);
        filled = λ k n. (
          hs tt k (omega (arith, here, n)) ∙ ap (λ p. Some (slot_number p)) (sym e),
          (at, get_last xs at (k * 5 + 2) (omega (arith, here, n))),
        );
      }
  | inr ne ↦
      let P : R → Type 0 = λ y. IsLastFill (xs ++ at ∷ []) slots (slot_number q) (num y) in
      subst P (sym (record_other s.records s.write q s.item ne))
      (last_fill_same xs slots (xs ++ at ∷ []) slots (slot_number q) _ (λ k f. was k f ne)
      (λ k. fill_kept W2 xs slots at 0 (slot_number q) k) (h q))
]
  where
    was : (k : ℕ) → HasFilled (xs ++ at ∷ []) slots (slot_number q) k → q ≢ s.write → HasFilled xs slots (slot_number q) k
    was k f ne = elim (get_cases xs at (k * 5 + 2) f.1.0 f.1.1) [
      | inl old ↦ (f.0, (f.1.0, old))
      | inr here ↦
          absurd
          (ne (slot_by_number q s.write (same_Some (slot_number q) (slot_number s.write) (sym f.0 ∙ hs tt k (omega (arith, here.0))))))
    ]

-- a source stays the source: later steps of the writer come after the read's R4, and later steps of the reader are of others
source_after_write : {R : Type 0} (at : ℕ) (x : R) (t : Trace R) (next m n : ℕ) → next ≤ at → IsCounted t next → m * 5 + 3 < length
    t.reader → IsSource (writes_of t) (reads_of t) m n → IsSource (writes_of (then_writer at x t)) (reads_of (then_writer at x t)) m n
source_after_write {R} at x t next m n le c inside h =
    let r4 = get_within t.reader (m * 5 + 3) inside in
    let new : ℕ = slot_number (after_write t.cell.writer x t.cell).write in
    record {
      above = λ k f.
          let before : IsBefore (slice_get t.writer (k * 5 + 2)) (slice_get t.reader (m * 5 + 3)) =
          write_was t.writer t.reader at (k * 5 + 2) (m * 5 + 3) r4.0 r4.1 (omega (arith, c.reader_below (m * 5 + 3) r4.0 r4.1)) f.1 in
          let w = of_before _ _ before in
          let there : k * 5 + 2 < length t.writer = slice_get_within t.writer (k * 5 + 2) w.0 w.1 in
          h.above k ((f.0.0, write_slot_was t.cell.writer t.write_slots new k f.0.0 (omega (arith, c.writer)) f.0.1, f.0.2), before);
      filled = λ k e.
          let f : Fills (writes_of t) (reads_of t) k m = h.filled k e in
          ((f.0.0, write_slot_kept t.cell.writer t.write_slots new k f.0.0 f.0.1, f.0.2), write_stays t.writer at (k * 5 + 2) _ f.1);
    }

source_after_read : {R : Type 0} (at : ℕ) (t : Trace R) (m n : ℕ) → m < length t.read_slots → m * 5 + 3 < length t.reader →
    IsSource (writes_of t) (reads_of t) m n → IsSource (writes_of (then_reader at t)) (reads_of (then_reader at t)) m n
source_after_read {R} at t m n chosen inside h =
    let r4 = get_within t.reader (m * 5 + 3) inside in
    let new : ℕ = slot_number (after_read t.cell.reader t.cell).read in
    let same : slice_get (t.reader ++ at ∷ []) (m * 5 + 3) ≡ slice_get t.reader (m * 5 + 3) = same_get t.reader at (m * 5 + 3) r4.0 r4.1 in
    record {
      above = λ k f.
          let P : Option ℕ → Type 0 = λ o. IsBefore (slice_get t.writer (k * 5 + 2)) o in
          h.above k ((f.0.0, f.0.1, read_slot_was t.cell.reader t.read_slots new m f.0.0 chosen f.0.2), subst P same f.1);
      filled = λ k e.
          let f : Fills (writes_of t) (reads_of t) k m = h.filled k e in
          let P : Option ℕ → Type 0 = λ o. IsBefore (slice_get t.writer (k * 5 + 2)) o in
          ((f.0.0, f.0.1, read_slot_kept t.cell.reader t.read_slots new m f.0.0 f.0.2), subst P (sym same) f.1);
    }

reading_made : (r : ReaderStage) → IsReading r → made r ≡ 4
reading_made R4 i = refl
reading_made R1 i = absurd i
reading_made R2 i = absurd i
reading_made R3 i = absurd i
reading_made R5 i = absurd i

pub sourced_write : {R : Type 0} (num : R → ℕ) (at : ℕ) (x : R) (t : Trace R) (next : ℕ) (prev : ℕ) → next ≤ at → IsCounted t next →
    (IsUnderWay t.cell.writer → num t.cell.item ≡ length t.write_slots) → IsSourced num t prev → IsSourced num (then_writer at x t) prev
sourced_write {R} num at x t next prev le c ni h =
    let s : State R = t.cell in
    record {
      contents = contents_write s.writer num x s t.writer t.write_slots at c.writer c.write_slot ni h.contents;
      reading = λ i m e.
          let j : IsReading s.reader = subst IsReading (reader_after s.writer x s) i in
          source_after_write at x t next m prev le c (omega (arith, c.reader, reading_made s.reader j)) (h.reading j m e);
      finished = λ m y e.
          let inside : m < length t.answers = slice_get_within t.answers m y e in
          source_after_write at x t next m (num y) le c (omega (arith, c.reader)) (h.finished m y e);
    }

pub records_stay : {R : Type 0} (r : ReaderStage) (s : State R) → (after_read r s).records ≡ s.records
records_stay R1 s = refl
records_stay R2 s = refl
records_stay R3 s = refl
records_stay R4 s = refl
records_stay R5 s = refl

-- a read that enters its slot has the last write that has filled it as its source
source_now : {R : Type 0} (num : R → ℕ) (at : ℕ) (t : Trace R) (next m n : ℕ) → next ≤ at → IsCounted t next → t.cell.reader ≡ R3 →
    m ≡ length t.answers → IsLastFill t.writer t.write_slots (slot_number t.cell.read) n →
    IsSource (writes_of (then_reader at t)) (reads_of (then_reader at t)) m n
source_now {R} num at t next m n le c is here h =
    let three : made t.cell.reader ≡ 3 = ap made is in
    let new : ℕ = slot_number (after_read t.cell.reader t.cell).read in
    let last : slice_get (t.reader ++ at ∷ []) (m * 5 + 3) ≡ Some at = get_last t.reader at (m * 5 + 3) (omega (arith, c.reader)) in
    let one : has_chosen t.cell.reader ≡ 1 = ap has_chosen is in
    let mine : slice_get t.read_slots m ≡ Some (slot_number t.cell.read) =
    ap (slice_get t.read_slots) here ∙ c.read_slot (subst HasIndex (sym is) tt) in
    record {
      above = λ k f.
          let w = of_before (slice_get t.writer (k * 5 + 2)) (slice_get (t.reader ++ at ∷ []) (m * 5 + 3)) f.1 in
          let slot : f.0.0 ≡ slot_number t.cell.read = same_Some f.0.0 (slot_number t.cell.read)
          (sym (read_slot_was t.cell.reader t.read_slots new m f.0.0 (omega (arith, c.read_slots)) f.0.2) ∙ mine) in
          h.above k (f.0.1 ∙ ap Some slot, (w.0, w.1));
      filled = λ k e.
          let f : HasFilled t.writer t.write_slots (slot_number t.cell.read) k = h.filled k e in (
            (slot_number t.cell.read, f.0, read_slot_kept t.cell.reader t.read_slots new m (slot_number t.cell.read) mine),
            to_before _ _ f.1.0 f.1.1 (λ y p.
                let there : at ≡ y = same_Some at y (sym last ∙ p) in
                omega (arith, c.writer_below (k * 5 + 2) f.1.0 f.1.1)),
          );
    }

-- the reader's next event is R4 where it is in its slot then
enters : {R : Type 0} (r : ReaderStage) (s : State R) → IsReading (after_read r s).reader → r ≡ R3
enters R1 s i = absurd i
enters R2 s i = absurd i
enters R3 s i = refl
enters R4 s i = absurd i
enters R5 s i = absurd i

no_answer : {R : Type 0} (r : ReaderStage) (answers : List R) (y : R) → r ≡ R3 → length (answered_by_read r answers y) ≡ length answers
no_answer R1 answers y e = refl
no_answer R2 answers y e = refl
no_answer R3 answers y e = refl
no_answer R4 answers y e = cc
no_answer R5 answers y e = refl

prev_at_r3 : {R : Type 0} (r : ReaderStage) (num : R → ℕ) (s : State R) (prev : ℕ) → r ≡ R3 → prev_after r num s prev ≡ prev
prev_at_r3 R1 num s prev e = refl
prev_at_r3 R2 num s prev e = cc
prev_at_r3 R3 num s prev e = refl
prev_at_r3 R4 num s prev e = refl
prev_at_r3 R5 num s prev e = refl

held_at_r3 : {R : Type 0} (w : Stage) (r : ReaderStage) (num : R → ℕ) (s : State R) (last : R) (prev floor : ℕ) → r ≡ R3 →
    IsFreshAt w r num s last prev floor → num (record_in s.records s.read) ≡ prev
held_at_r3 w R3 num s last prev floor e f = f.held tt
held_at_r3 w R1 num s last prev floor e f = cc
held_at_r3 w R2 num s last prev floor e f = cc
held_at_r3 w R4 num s last prev floor e f = cc
held_at_r3 w R5 num s last prev floor e f = cc

pub sourced_read : {R : Type 0} (num : R → ℕ) (at : ℕ) (t : Trace R) (next : ℕ) (last : R) (prev floor : ℕ) → next ≤ at → IsCounted t next →
    IsFreshTrace num t last prev floor → IsSourced num t prev → IsSourced num (then_reader at t) (prev_after t.cell.reader num t.cell prev)
sourced_read {R} num at t next last prev floor le c f h =
    let s : State R = t.cell in
    record {
      contents =
          let P : Sides (Sides R) → Type 0 = λ records. HasContents num records t.writer t.write_slots in
          subst P (sym (records_stay s.reader s)) h.contents;
      reading = λ i m e.
          let is : s.reader ≡ R3 = enters s.reader s i in
          let here : m ≡ length t.answers = e ∙ no_answer s.reader t.answers (answer s) is in
          let number : num (record_in s.records s.read) ≡ prev_after s.reader num s prev =
          held_at_r3 s.writer s.reader num s last prev floor is f.order ∙ sym (prev_at_r3 s.reader num s prev is) in
          let P : ℕ → Type 0 = λ n. IsSource (writes_of (then_reader at t)) (reads_of (then_reader at t)) m n in
          subst P number (source_now num at t next m (num (record_in s.records s.read)) le c is here (h.contents s.read));
      finished = λ m x e. elim (answers_was s.reader t.answers (answer s) m x e) [
        | inl was ↦
            let inside : m < length t.answers = slice_get_within t.answers m x was in
            source_after_read at t m (num x) (omega (arith, c.read_slots)) (omega (arith, c.reader)) (h.finished m x was)
        | inr new ↦
            let number : prev ≡ num x =
            sym (ap num new.2 ∙ answer_number s.writer s.reader num s last prev floor new.0 f.unmet refl f.order) in
            let four : made s.reader ≡ 4 = ap made new.0 in
            let one : has_chosen s.reader ≡ 1 = ap has_chosen new.0 in
            let P : ℕ → Type 0 = λ n. IsSource (writes_of (then_reader at t)) (reads_of (then_reader at t)) m n in
            subst P number (source_after_read at t m prev (omega (arith, c.read_slots, new.1)) (omega (arith, c.reader, new.1))
            (h.reading (subst IsReading (sym new.0) tt) m new.1))
      ];
    }

pub sourced_start : {R : Type 0} (num : R → ℕ) (opening noise : R) → num opening ≡ 0 → IsSourced num (trace_start opening noise) 0
sourced_start {R} num opening noise z = record {
  contents = λ q. record {
    above = λ k f. let no : k < 0 = slice_get_within [] k (slot_number q) f.0 in omega arith;
    filled = λ k n. absurd (omega (arith, all_opening q.pair q.index, z, n));
  };
  reading = λ i m e. absurd i;
  finished = λ m x e. cc;
}
  where
    all_opening : (a b : Bool) → num (record_in (opening_state opening noise).records (record { pair = a; index = b })) ≡ num opening
    all_opening true true = refl
    all_opening true false = refl
    all_opening false true = refl
    all_opening false false = refl
