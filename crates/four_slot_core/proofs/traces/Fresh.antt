-- A trace from the opening is fresh, where write k takes a record with the number k + 1: the numbers of the records in the
-- slots are kept by every event, and what a finished read is compared with lies before its end.
use Rattle.std.proofs.Common.{◌≡◌, ℕ, ◌+◌, ◌*◌, ◌<◌, ◌≤◌, false, List, [], ◌∷◌, ◌++◌, length, slice_get, Option, Some, refl, sym, subst}
use Rattle.std.proofs.Common.{◌∙◌, ap, ◌⊎◌, inl, inr, arith, length-append}
use Rattle.std.specs.Prelude.{if◌then◌else◌}
use Rattle.std.proofs.lemmas.Option.{slice_get_within}
use Rattle.four_slot_core.specs.declared.state.State.{State}
use Rattle.four_slot_core.specs.declared.state.Stage.{Stage}
use Rattle.four_slot_core.specs.declared.state.Stage.TheVariants.{W1, W2, W3, W4, W5}
use Rattle.four_slot_core.specs.declared.state.ReaderStage.{ReaderStage}
use Rattle.four_slot_core.specs.declared.state.ReaderStage.TheVariants.{R1, R2, R3, R4, R5}
use Rattle.history_core.specs.Registers.{IsBefore}
use Rattle.history_core.proofs.Times.{of_before, to_before}
use Rattle.four_slot_core.specs.Events.{after_read, after_write, answer, next_write, record_in, slot_number}
use Rattle.four_slot_core.specs.Freshness.{named, IsFreshAt, IsFresh, prev_after, floor_after}
use Rattle.four_slot_core.specs.Invariant.{IsSound, IsSoundAt, IsStored, IsUnderWay, IsUnmet, IsReading, last_after}
use Rattle.four_slot_core.specs.Traces.{Trace, shown_by_write, answered_by_read, then_writer, then_reader, trace_start}
use Rattle.four_slot_core.proofs.events.Keeping.{writer_after, reader_after, writer_stays, opening_is_sound, write_is_sound, read_is_sound}
use Rattle.four_slot_core.proofs.events.Keeping.{opening_unmet, write_unmet, read_unmet}
use Rattle.four_slot_core.proofs.events.KeepingFresh.{opening_is_fresh, numbers_after_write, numbers_after_read}
use Rattle.four_slot_core.proofs.Pushed.{get_before, get_cases, get_within, same_get}
use Rattle.four_slot_core.proofs.traces.Counts.{left, made, IsCounted}

-- 1 while a write is under way
abbrev pub open_writes : Stage → ℕ
open_writes W5 = 0
open_writes _ = 1

-- a read is under way, from R1 to R5
abbrev pub IsOpen : ReaderStage → Type 0
IsOpen R5 = ⊥
IsOpen _ = Unit {0}

-- a finished read with this number is fresh, where earlier reads have the numbers of their answers
pub record IsFreshBy {R : Type 0} (num : R → ℕ) (t : Trace R) (m n : ℕ) : Type 0 where
  pub writes : (k : ℕ) → IsBefore (slice_get t.writer (k * 5 + 4)) (slice_get t.reader (m * 5 + 0)) → k + 1 ≤ n
  pub earlier : (j : ℕ) (y : R) → j < m → slice_get t.answers j ≡ Some y → num y ≤ n
  pub begun : (k : ℕ) → n ≡ k + 1 → IsBefore (slice_get t.writer (k * 5 + 0)) (slice_get t.reader (m * 5 + 4))

-- last: the record of the last finished write; prev: the number that the last R3 chose; floor: that of the last write that
-- was finished at the last R1
pub record IsFreshTrace {R : Type 0} (num : R → ℕ) (t : Trace R) (last : R) (prev floor : ℕ) : Type 0 where
  pub sound : IsSound t.cell last
  pub unmet : IsUnmet t.cell
  pub order : IsFresh num t.cell last prev floor
  pub numbered : num last + open_writes t.cell.writer ≡ length t.write_slots
  pub finished : (m : ℕ) (x : R) → slice_get t.answers m ≡ Some x → IsFreshBy num t m (num x)
  pub highest : (m : ℕ) (x : R) → slice_get t.answers m ≡ Some x → num x ≤ prev
  pub above : IsOpen t.cell.reader → (k : ℕ) →
      IsBefore (slice_get t.writer (k * 5 + 4)) (slice_get t.reader (length t.answers * 5 + 0)) → k + 1 ≤ floor

left_small : (w : Stage) → left w ≤ 4
left_small W1 = omega arith
left_small W2 = omega arith
left_small W3 = omega arith
left_small W4 = omega arith
left_small W5 = omega arith

-- a write that has made W5 is not under way
ended_small : (w : Stage) (n s k l : ℕ) → n + left w ≡ s * 5 → l + open_writes w ≡ s → k * 5 + 4 < n → k + 1 ≤ l
ended_small W1 n s k l h e u = omega arith
ended_small W2 n s k l h e u = omega arith
ended_small W3 n s k l h e u = omega arith
ended_small W4 n s k l h e u = omega arith
ended_small W5 n s k l h e u = omega arith

open_made : (r : ReaderStage) → IsOpen r → 1 ≤ made r
open_made R1 o = omega arith
open_made R2 o = omega arith
open_made R3 o = omega arith
open_made R4 o = omega arith
open_made R5 o = absurd o

-- a write whose end is before a position that is there ended before the new last step
pub write_was : (xs ys : List ℕ) (at i j c : ℕ) → slice_get ys j ≡ Some c → c < at →
    IsBefore (slice_get (xs ++ at ∷ []) i) (slice_get ys j) → IsBefore (slice_get xs i) (slice_get ys j)
write_was xs ys at i j c e l b =
    let w = of_before _ _ b in
    elim (get_cases xs at i w.0 w.1) [
      | inl old ↦ to_before _ _ w.0 old w.2
      | inr new ↦ absurd (omega (arith, w.2 c e, new.1))
    ]

pub write_stays : (xs : List ℕ) (at i : ℕ) (o : Option ℕ) → IsBefore (slice_get xs i) o → IsBefore (slice_get (xs ++ at ∷ []) i) o
write_stays xs at i o b = let w = of_before _ _ b in to_before _ _ w.0 (get_before xs at i w.0 w.1) w.2

next_numbered : {R : Type 0} (w : Stage) (num : R → ℕ) (s : State R) (last : R) (slots : List ℕ) (slot : ℕ) →
    num last + open_writes w ≡ length slots → (IsUnderWay w → num s.item ≡ num last + 1) →
    num (last_after w s last) + open_writes (next_write w) ≡ length (shown_by_write w slots slot)
next_numbered W1 num s last slots slot h i = h
next_numbered W2 num s last slots slot h i = h
next_numbered W3 num s last slots slot h i = h
next_numbered W4 num s last slots slot h i = omega (arith, i tt)
next_numbered W5 num s last slots slot h i = omega (arith, length-append slots (slot ∷ []))

pub fresh_write : {R : Type 0} (num : R → ℕ) (at : ℕ) (x : R) (t : Trace R) (next : ℕ) (last : R) (prev floor : ℕ) → next ≤ at →
    num x ≡ length t.write_slots + 1 → IsCounted t next → IsFreshTrace num t last prev floor →
    IsFreshTrace num (then_writer at x t) (last_after t.cell.writer t.cell last) prev floor
fresh_write {R} num at x t next last prev floor le nx c f =
    let s : State R = t.cell in
    let first : s.writer ≡ W5 → num x ≡ num last + 1 = λ e.
    let none : open_writes s.writer ≡ 0 = ap open_writes e in
    omega (arith, f.numbered, none) in
    record {
      sound = write_is_sound x s last f.sound;
      unmet = write_unmet x s last f.sound f.unmet;
      order = numbers_after_write num x s last prev floor first f.sound f.order;
      numbered =
          ap (λ w. num (last_after s.writer s last) + open_writes w) (writer_after s.writer x s)
          ∙ next_numbered s.writer num s last t.write_slots (slot_number (after_write s.writer x s).write) f.numbered f.order.numbered;
      finished = λ m y e.
          let old = f.finished m y e in
          let inside : m < length t.answers = slice_get_within t.answers m y e in
          let r1 = get_within t.reader (m * 5 + 0) (omega (arith, c.reader)) in
          record {
            writes = λ k b. old.writes k
                (write_was t.writer t.reader at (k * 5 + 4) (m * 5 + 0) r1.0 r1.1 (omega (arith, c.reader_below (m * 5 + 0) r1.0 r1.1)) b);
            earlier = old.earlier;
            begun = λ k n. write_stays t.writer at (k * 5 + 0) _ (old.begun k n);
          };
      highest = f.highest;
      above = λ o k b.
          let open_before : IsOpen s.reader = subst IsOpen (reader_after s.writer x s) o in
          let r1 = get_within t.reader (length t.answers * 5 + 0) (omega (arith, c.reader, open_made s.reader open_before)) in
          f.above open_before k (write_was t.writer t.reader at (k * 5 + 4) (length t.answers * 5 + 0) r1.0 r1.1
          (omega (arith, c.reader_below (length t.answers * 5 + 0) r1.0 r1.1)) b);
    }

-- the number that the last R3 chose is that of a write that has begun
prev_small : {R : Type 0} (w : Stage) (r : ReaderStage) (num : R → ℕ) (s : State R) (last : R) (prev floor : ℕ) → IsSoundAt w r s last →
    IsFreshAt w r num s last prev floor → prev ≤ num last + open_writes w
prev_small {R} w r num s last prev floor h f = elim (f.top s.latest) [
  | inl le ↦ omega (arith, f.past)
  | inr stored ↦
      let new : num (named s s.latest) ≡ num s.item = ap num (h.current_new stored.0 (sym stored.1)) in
      omega (arith, f.past, new, f.numbered (under_way w stored.0), one w stored.0)
]
  where
    under_way : (v : Stage) → IsStored v → IsUnderWay v
    under_way W1 i = absurd i
    under_way W2 i = absurd i
    under_way W3 i = absurd i
    under_way W4 i = tt
    under_way W5 i = absurd i

    one : (v : Stage) → IsStored v → open_writes v ≡ 1
    one W1 i = absurd i
    one W2 i = absurd i
    one W3 i = absurd i
    one W4 i = refl
    one W5 i = absurd i

pub answers_was : {R : Type 0} (r : ReaderStage) (answers : List R) (y : R) (m : ℕ) (x : R) →
    slice_get (answered_by_read r answers y) m ≡ Some x → (slice_get answers m ≡ Some x) ⊎ ((r ≡ R4) × (m ≡ length answers) × (x ≡ y))
answers_was R1 answers y m x e = inl e
answers_was R2 answers y m x e = inl e
answers_was R3 answers y m x e = inl e
answers_was R4 answers y m x e = elim (get_cases answers y m x e) [ inl old ↦ inl old | inr new ↦ inr (refl, new.0, new.1) ]
answers_was R5 answers y m x e = inl e

prev_up : {R : Type 0} (w : Stage) (r : ReaderStage) (num : R → ℕ) (s : State R) (last : R) (prev floor : ℕ) →
    IsFreshAt w r num s last prev floor → prev ≤ prev_after r num s prev
prev_up w R1 num s last prev floor f = omega arith
prev_up w R2 num s last prev floor f = (f.begun tt).1
prev_up w R3 num s last prev floor f = omega arith
prev_up w R4 num s last prev floor f = omega arith
prev_up w R5 num s last prev floor f = omega arith

-- the answer of a read that ends is the record of its slot, which has the number that R3 chose
pub answer_number : {R : Type 0} (w : Stage) (r : ReaderStage) (num : R → ℕ) (s : State R) (last : R) (prev floor : ℕ) → r ≡ R4 →
    IsUnmet s → s.reader ≡ r → IsFreshAt w r num s last prev floor → num (answer s) ≡ prev
answer_number {R} w R4 num s last prev floor is calm e f =
    let quiet : s.met ≡ false = calm (subst IsReading (sym e) tt) in
    ap (λ b. num (if b then s.noise else record_in s.records s.read)) quiet ∙ f.held tt
answer_number w R1 num s last prev floor is calm e f = cc
answer_number w R2 num s last prev floor is calm e f = cc
answer_number w R3 num s last prev floor is calm e f = cc
answer_number w R5 num s last prev floor is calm e f = cc

pub same_prev : {R : Type 0} (r : ReaderStage) (num : R → ℕ) (s : State R) (prev : ℕ) → r ≡ R4 → prev_after r num s prev ≡ prev
same_prev R1 num s prev e = refl
same_prev R2 num s prev e = cc
same_prev R3 num s prev e = refl
same_prev R4 num s prev e = refl
same_prev R5 num s prev e = refl

floor_small : {R : Type 0} (w : Stage) (r : ReaderStage) (num : R → ℕ) (s : State R) (last : R) (prev floor : ℕ) → r ≡ R4 →
    IsFreshAt w r num s last prev floor → floor ≤ prev
floor_small w R4 num s last prev floor e f = f.fresh tt
floor_small w R1 num s last prev floor e f = cc
floor_small w R2 num s last prev floor e f = cc
floor_small w R3 num s last prev floor e f = cc
floor_small w R5 num s last prev floor e f = cc

-- what the floor is above, after the reader's next event
above_after : {R : Type 0} (r : ReaderStage) (num : R → ℕ) (s : State R) (last : R) (floor at k : ℕ) (writer reader : List ℕ)
    (answers : List R) (y : R) →
    length reader ≡ length answers * 5 + made r → (k * 5 + 4 < length writer → k + 1 ≤ num last) →
    (IsOpen r → IsBefore (slice_get writer (k * 5 + 4)) (slice_get reader (length answers * 5 + 0)) → k + 1 ≤ floor) →
    IsOpen (after_read r s).reader → IsBefore (slice_get writer (k * 5 + 4))
    (slice_get (reader ++ at ∷ []) (length (answered_by_read r answers y) * 5 + 0)) → k + 1 ≤ floor_after r num last floor
above_after R5 num s last floor at k writer reader answers y c ended h o b =
    let w = of_before _ _ b in
    ended (slice_get_within writer (k * 5 + 4) w.0 w.1)
above_after R4 num s last floor at k writer reader answers y c ended h o b = absurd o
above_after R1 num s last floor at k writer reader answers y c ended h o b =
    let r1 = get_within reader (length answers * 5 + 0) (omega (arith, c)) in
    let P : Option ℕ → Type 0 = λ p. IsBefore (slice_get writer (k * 5 + 4)) p in
    h tt (subst P (same_get reader at (length answers * 5 + 0) r1.0 r1.1) b)
above_after R2 num s last floor at k writer reader answers y c ended h o b =
    let r1 = get_within reader (length answers * 5 + 0) (omega (arith, c)) in
    let P : Option ℕ → Type 0 = λ p. IsBefore (slice_get writer (k * 5 + 4)) p in
    h tt (subst P (same_get reader at (length answers * 5 + 0) r1.0 r1.1) b)
above_after R3 num s last floor at k writer reader answers y c ended h o b =
    let r1 = get_within reader (length answers * 5 + 0) (omega (arith, c)) in
    let P : Option ℕ → Type 0 = λ p. IsBefore (slice_get writer (k * 5 + 4)) p in
    h tt (subst P (same_get reader at (length answers * 5 + 0) r1.0 r1.1) b)

-- a read that has ended stays fresh
finished_stays : {R : Type 0} (num : R → ℕ) (at : ℕ) (t : Trace R) (next m n : ℕ) → IsCounted t next → m < length t.answers →
    IsFreshBy num t m n → IsFreshBy num (then_reader at t) m n
finished_stays {R} num at t next m n c inside old =
    let r1 = get_within t.reader (m * 5 + 0) (omega (arith, c.reader)) in
    let r5 = get_within t.reader (m * 5 + 4) (omega (arith, c.reader)) in
    record {
      writes = λ k b.
          let P : Option ℕ → Type 0 = λ p. IsBefore (slice_get t.writer (k * 5 + 4)) p in
          old.writes k (subst P (same_get t.reader at (m * 5 + 0) r1.0 r1.1) b);
      earlier = λ j y l e. elim (answers_was t.cell.reader t.answers (answer t.cell) j y e) [
        | inl was ↦ old.earlier j y l was
        | inr new ↦
            absurd (omega (arith, new.1))
      ];
      begun = λ k e.
          let P : Option ℕ → Type 0 = λ p. IsBefore (slice_get t.writer (k * 5 + 0)) p in
          subst P (sym (same_get t.reader at (m * 5 + 4) r5.0 r5.1)) (old.begun k e);
    }

-- the read that ends is fresh
finished_now : {R : Type 0} (num : R → ℕ) (at : ℕ) (t : Trace R) (next m n : ℕ) (last : R) (prev floor : ℕ) → next ≤ at → IsCounted t next →
    IsFreshTrace num t last prev floor → t.cell.reader ≡ R4 → m ≡ length t.answers → n ≡ prev → IsFreshBy num (then_reader at t) m n
finished_now {R} num at t next m n last prev floor le c f is e here =
    let four : made t.cell.reader ≡ 4 = ap made is in
    let r1 = get_within t.reader (m * 5 + 0) (omega (arith, c.reader)) in
    record {
      writes = λ k b.
          let P : Option ℕ → Type 0 = λ p. IsBefore (slice_get t.writer (k * 5 + 4)) p in
          let Q : ℕ → Type 0 = λ j. IsBefore (slice_get t.writer (k * 5 + 4)) (slice_get t.reader (j * 5 + 0)) in
          let low : k + 1 ≤ floor =
          f.above (subst IsOpen (sym is) tt) k (subst Q e (subst P (same_get t.reader at (m * 5 + 0) r1.0 r1.1) b)) in
          omega (arith, floor_small t.cell.writer t.cell.reader num t.cell last prev floor is f.order);
      earlier = λ j y l was. elim (answers_was t.cell.reader t.answers (answer t.cell) j y was) [
        | inl old ↦
            omega (arith, f.highest j y old)
        | inr new ↦ absurd (omega (arith, new.1))
      ];
      begun = λ k g.
          let small : prev ≤ num last + open_writes t.cell.writer =
          prev_small t.cell.writer t.cell.reader num t.cell last prev floor f.sound f.order in
          let w1 = get_within t.writer (k * 5 + 0) (omega (arith, c.writer, f.numbered, left_small t.cell.writer)) in
          to_before _ _ w1.0 w1.1 (λ y p. elim (get_cases t.reader at (m * 5 + 4) y p) [
            | inl old ↦ absurd (let no : m * 5 + 4 < length t.reader = slice_get_within t.reader (m * 5 + 4) y old in
                omega (arith, c.reader))
            | inr new ↦ omega (arith, c.writer_below (k * 5 + 0) w1.0 w1.1, new.1)
          ]);
    }

pub fresh_read : {R : Type 0} (num : R → ℕ) (at : ℕ) (t : Trace R) (next : ℕ) (last : R) (prev floor : ℕ) → next ≤ at → IsCounted t next →
    IsFreshTrace num t last prev floor →
    IsFreshTrace num (then_reader at t) last (prev_after t.cell.reader num t.cell prev) (floor_after t.cell.reader num last floor)
fresh_read {R} num at t next last prev floor le c f =
    let s : State R = t.cell in
    let up : prev ≤ prev_after s.reader num s prev = prev_up s.writer s.reader num s last prev floor f.order in
    record {
      sound = read_is_sound s last f.sound;
      unmet = read_unmet s last f.sound f.unmet;
      order = numbers_after_read num s last prev floor f.sound f.order;
      numbered = ap (λ w. num last + open_writes w) (writer_stays s.reader s) ∙ f.numbered;
      finished = λ m x e. elim (answers_was s.reader t.answers (answer s) m x e) [
        | inl was ↦ finished_stays num at t next m (num x) c (slice_get_within t.answers m x was) (f.finished m x was)
        | inr new ↦ finished_now num at t next m (num x) last prev floor le c f new.0 new.1
            (ap num new.2 ∙ answer_number s.writer s.reader num s last prev floor new.0 f.unmet refl f.order)
      ];
      highest = λ m x e. elim (answers_was s.reader t.answers (answer s) m x e) [
        | inl was ↦ omega (arith, f.highest m x was)
        | inr new ↦ omega (
          arith,
          ap num new.2,
          answer_number s.writer s.reader num s last prev floor new.0 f.unmet refl f.order,
          same_prev s.reader num s prev new.0,
        )
      ];
      above = λ o k b.
          above_after s.reader num s last floor at k t.writer t.reader t.answers (answer s) c.reader
          (λ u. ended_small s.writer (length t.writer) (length t.write_slots) k (num last) c.writer f.numbered u)
          (λ i. f.above i k) o b;
    }

pub fresh_start : {R : Type 0} (num : R → ℕ) (opening noise : R) → num opening ≡ 0 →
    IsFreshTrace num (trace_start opening noise) opening 0 0
fresh_start num opening noise z = record {
  sound = opening_is_sound opening noise;
  unmet = opening_unmet opening noise;
  order = opening_is_fresh num opening noise z;
  numbered = omega (arith, z);
  finished = λ m x e. cc;
  highest = λ m x e. cc;
  above = λ o k b. absurd o;
}
