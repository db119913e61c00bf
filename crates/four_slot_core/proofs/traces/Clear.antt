-- A trace from the opening is clear: when a side enters a slot, the other is in another one or has left, since the cell is
-- sound; and what has ended before stays so.
use Rattle.std.proofs.Common.{◌≡◌, ℕ, ◌+◌, ◌*◌, ◌<◌, ◌≤◌, Bool, true, false, List, [], ◌∷◌, ◌++◌, length, slice_get, Option, Some, refl}
use Rattle.std.proofs.Common.{sym, subst, ◌∙◌, ap, inl, inr, arith}
use Rattle.std.proofs.lemmas.Bool.{cases_lt}
use Rattle.std.proofs.lemmas.Option.{same_Some, slice_get_within}
use Rattle.four_slot_core.specs.declared.state.Slot.{Slot}
use Rattle.four_slot_core.specs.declared.state.Stage.{Stage}
use Rattle.four_slot_core.specs.declared.state.Stage.TheVariants.{W1, W2, W3, W4, W5}
use Rattle.four_slot_core.specs.declared.state.ReaderStage.{ReaderStage}
use Rattle.four_slot_core.specs.declared.state.ReaderStage.TheVariants.{R1, R2, R3, R4, R5}
use Rattle.four_slot_core.specs.Accesses.{IsClear}
use Rattle.history_core.specs.Registers.{IsBefore}
use Rattle.history_core.proofs.Times.{of_before, to_before}
use Rattle.four_slot_core.specs.Events.{after_read, after_write, bit_number, slot_number}
use Rattle.four_slot_core.specs.Invariant.{IsSound, IsUnderWay, HasIndex, HasSlot}
use Rattle.four_slot_core.specs.Traces.{Trace, shown_by_write, shown_by_read, then_writer, then_reader, writes_of, reads_of}
use Rattle.four_slot_core.proofs.events.Keeping.{clear_of_sound}
use Rattle.four_slot_core.proofs.events.TwoSides.{same_slot_of}
use Rattle.four_slot_core.proofs.Pushed.{get_before, get_cases, get_within, some_of, is_some_of, same_get}
use Rattle.four_slot_core.proofs.traces.Counts.{left, made, has_chosen, IsCounted}

bit_small : (b : Bool) → bit_number b ≤ 1
bit_small true = omega arith
bit_small false = omega arith

same_bit_of : (a b : Bool) → bit_number a ≡ bit_number b → a ≡ b
same_bit_of true true e = refl
same_bit_of true false e = absurd (omega arith)
same_bit_of false true e = absurd (omega arith)
same_bit_of false false e = refl

-- a slot's number tells the slot
pub slot_by_number : (p q : Slot) → slot_number p ≡ slot_number q → p ≡ q
slot_by_number p q e =
    let pp = bit_small p.pair in
    let pi = bit_small p.index in
    let qp = bit_small q.pair in
    let qi = bit_small q.index in
    same_slot_of p q.pair q.index (same_bit_of p.pair q.pair (omega arith)) (same_bit_of p.index q.index (omega arith))

-- an event is the one under way where it is the next in count
pub w2_next : (w : Stage) (k n : ℕ) → (k * 5 + 1) + left w ≡ n * 5 → (w ≡ W1) × (k + 1 ≡ n)
w2_next W1 k n h = (refl, omega arith)
w2_next W2 k n h = absurd (omega arith)
w2_next W3 k n h = absurd (omega arith)
w2_next W4 k n h = absurd (omega arith)
w2_next W5 k n h = absurd (omega arith)

pub w3_next : (w : Stage) (k n : ℕ) → (k * 5 + 2) + left w ≡ n * 5 → (w ≡ W2) × (k + 1 ≡ n)
w3_next W1 k n h = absurd (omega arith)
w3_next W2 k n h = (refl, omega arith)
w3_next W3 k n h = absurd (omega arith)
w3_next W4 k n h = absurd (omega arith)
w3_next W5 k n h = absurd (omega arith)

pub r4_next : (r : ReaderStage) (m n : ℕ) → m * 5 + 3 ≡ n * 5 + made r → (r ≡ R3) × (m ≡ n)
r4_next R1 m n h = absurd (omega arith)
r4_next R2 m n h = absurd (omega arith)
r4_next R3 m n h = (refl, omega arith)
r4_next R4 m n h = absurd (omega arith)
r4_next R5 m n h = absurd (omega arith)

pub r5_next : (r : ReaderStage) (m n : ℕ) → m * 5 + 4 ≡ n * 5 + made r → (r ≡ R4) × (m ≡ n)
r5_next R1 m n h = absurd (omega arith)
r5_next R2 m n h = absurd (omega arith)
r5_next R3 m n h = absurd (omega arith)
r5_next R4 m n h = (refl, omega arith)
r5_next R5 m n h = absurd (omega arith)

-- a read that has made R4 has its slot
pub has_slot : (r : ReaderStage) (m n : ℕ) → m * 5 + 3 < n * 5 + made r → m < n + has_chosen r
has_slot R1 m n h = omega arith
has_slot R2 m n h = omega arith
has_slot R3 m n h = omega arith
has_slot R4 m n h = omega arith
has_slot R5 m n h = omega arith

-- the slot of an operation that had one stays
pub write_slot_was : (w : Stage) (slots : List ℕ) (slot k x : ℕ) → k < length slots → slice_get (shown_by_write w slots slot) k ≡ Some x →
    slice_get slots k ≡ Some x
write_slot_was W1 slots slot k x l e = e
write_slot_was W2 slots slot k x l e = e
write_slot_was W3 slots slot k x l e = e
write_slot_was W4 slots slot k x l e = e
write_slot_was W5 slots slot k x l e = elim (get_cases slots slot k x e) [ inl old ↦ old | inr new ↦ absurd (omega (arith, new.0)) ]

pub read_slot_was : (r : ReaderStage) (slots : List ℕ) (slot m x : ℕ) → m < length slots →
    slice_get (shown_by_read r slots slot) m ≡ Some x → slice_get slots m ≡ Some x
read_slot_was R1 slots slot m x l e = e
read_slot_was R2 slots slot m x l e = elim (get_cases slots slot m x e) [ inl old ↦ old | inr new ↦ absurd (omega (arith, new.0)) ]
read_slot_was R3 slots slot m x l e = e
read_slot_was R4 slots slot m x l e = e
read_slot_was R5 slots slot m x l e = e

-- two operations that are in their slots have different ones
apart : {R : Type 0} (t : Trace R) (next : ℕ) (last : R) (k slot : ℕ) → IsCounted t next → IsSound t.cell last → IsUnderWay t.cell.writer →
    HasSlot t.cell.writer → HasIndex t.cell.reader → k + 1 ≡ length t.write_slots → slice_get t.write_slots k ≡ Some slot →
    slice_get t.read_slots (length t.answers) ≡ Some slot → ⊥
apart {R} t next last k slot c sound u hs hi e ws rs =
    let w : slot ≡ slot_number t.cell.write = same_Some slot (slot_number t.cell.write) (sym ws ∙ c.write_slot u k e) in
    let r : slot ≡ slot_number t.cell.read = same_Some slot (slot_number t.cell.read) (sym rs ∙ c.read_slot hi) in
    clear_of_sound t.cell last sound hi hs (slot_by_number t.cell.write t.cell.read (sym w ∙ r))

pub clear_write : {R : Type 0} (at : ℕ) (x : R) (t : Trace R) (next : ℕ) (last : R) → next ≤ at → IsCounted t next → IsSound t.cell last →
    IsClear (writes_of t) (reads_of t) → IsClear (writes_of (then_writer at x t)) (reads_of (then_writer at x t))
clear_write {R} at x t next last le c sound h k m same sw sr =
    let b = some_of (slice_get (t.writer ++ at ∷ []) (k * 5 + 1)) sw in
    let r4 = some_of (slice_get t.reader (m * 5 + 3)) sr in
    let new_slot : ℕ = slot_number (after_write t.cell.writer x t.cell).write in
    elim (get_cases t.writer at (k * 5 + 1) b.0 b.1) [
      | inl old ↦
          let inside : k * 5 + 1 < length t.writer = slice_get_within t.writer (k * 5 + 1) b.0 old in
          let ws : slice_get t.write_slots k ≡ Some same.0 =
          write_slot_was t.cell.writer t.write_slots new_slot k same.0 (omega (arith, c.writer)) same.1 in
          elim (h k m (same.0, ws, same.2) (is_some_of _ b.0 old) sr) [
            | inl ended ↦
                let w = of_before _ _ ended in
                inl (to_before _ _ w.0 (get_before t.writer at (k * 5 + 2) w.0 w.1) w.2)
            | inr left ↦
                let P : Option ℕ → Type 0 = λ o. IsBefore (slice_get t.reader (m * 5 + 4)) o in
                inr (subst P (sym (same_get t.writer at (k * 5 + 1) b.0 old)) left)
          ]
      | inr new ↦
          let stage = w2_next t.cell.writer k (length t.write_slots) (omega (arith, c.writer, new.0)) in
          elim (cases_lt (m * 5 + 4) (length t.reader)) [
            | inl ended ↦
                let d = get_within t.reader (m * 5 + 4) ended in
                inr (to_before _ _ d.0 d.1 (λ y e.
                let here : b.0 ≡ y = same_Some b.0 y (sym b.1 ∙ e) in
                omega (arith, c.reader_below (m * 5 + 4) d.0 d.1, new.1)))
            | inr still ↦
                let inside : m * 5 + 3 < length t.reader = slice_get_within t.reader (m * 5 + 3) r4.0 r4.1 in
                let reading = r5_next t.cell.reader m (length t.answers) (omega (arith, c.reader)) in
                absurd (apart t next last k same.0 c sound (subst IsUnderWay (sym stage.0) tt) (subst HasSlot (sym stage.0) tt)
                (subst HasIndex (sym reading.0) tt) stage.1
                (write_slot_was t.cell.writer t.write_slots new_slot k same.0 (omega (arith, stage.1)) same.1)
                (ap (slice_get t.read_slots) (sym reading.1) ∙ same.2))
          ]
    ]

pub clear_read : {R : Type 0} (at : ℕ) (t : Trace R) (next : ℕ) (last : R) → next ≤ at → IsCounted t next → IsSound t.cell last →
    IsClear (writes_of t) (reads_of t) → IsClear (writes_of (then_reader at t)) (reads_of (then_reader at t))
clear_read {R} at t next last le c sound h k m same sw sr =
    let b = some_of (slice_get t.writer (k * 5 + 1)) sw in
    let r4 = some_of (slice_get (t.reader ++ at ∷ []) (m * 5 + 3)) sr in
    let new_slot : ℕ = slot_number (after_read t.cell.reader t.cell).read in
    elim (get_cases t.reader at (m * 5 + 3) r4.0 r4.1) [
      | inl old ↦
          let inside : m * 5 + 3 < length t.reader = slice_get_within t.reader (m * 5 + 3) r4.0 old in
          let chosen : m < length t.answers + has_chosen t.cell.reader =
          has_slot t.cell.reader m (length t.answers) (omega (arith, c.reader)) in
          let rs : slice_get t.read_slots m ≡ Some same.0 =
          read_slot_was t.cell.reader t.read_slots new_slot m same.0 (omega (arith, c.read_slots)) same.2 in
          elim (h k m (same.0, same.1, rs) sw (is_some_of _ r4.0 old)) [
            | inl ended ↦
                let P : Option ℕ → Type 0 = λ o. IsBefore (slice_get t.writer (k * 5 + 2)) o in
                inl (subst P (sym (same_get t.reader at (m * 5 + 3) r4.0 old)) ended)
            | inr left ↦
                let d = of_before _ _ left in
                inr (to_before _ _ d.0 (get_before t.reader at (m * 5 + 4) d.0 d.1) d.2)
          ]
      | inr new ↦
          let stage = r4_next t.cell.reader m (length t.answers) (omega (arith, c.reader, new.0)) in
          elim (cases_lt (k * 5 + 2) (length t.writer)) [
            | inl ended ↦
                let w = get_within t.writer (k * 5 + 2) ended in
                inl (to_before _ _ w.0 w.1 (λ y e.
                let here : r4.0 ≡ y = same_Some r4.0 y (sym r4.1 ∙ e) in
                omega (arith, c.writer_below (k * 5 + 2) w.0 w.1, new.1)))
            | inr still ↦
                let inside : k * 5 + 1 < length t.writer = slice_get_within t.writer (k * 5 + 1) b.0 b.1 in
                let writing = w3_next t.cell.writer k (length t.write_slots) (omega (arith, c.writer)) in
                let rs : slice_get t.read_slots m ≡ Some same.0 = shown (t.cell.reader) stage.0 same.2 in
                absurd (apart t next last k same.0 c sound (subst IsUnderWay (sym writing.0) tt) (subst HasSlot (sym writing.0) tt)
                (subst HasIndex (sym stage.0) tt) writing.1 same.1
                (ap (slice_get t.read_slots) (sym stage.1) ∙ rs))
          ]
    ]
  where
    shown : (r : ReaderStage) → r ≡ R3 → slice_get (shown_by_read r t.read_slots (slot_number (after_read t.cell.reader t.cell).read)) m
        ≡ Some same.0 → slice_get t.read_slots m ≡ Some same.0
    shown R1 e g = cc
    shown R2 e g = cc
    shown R3 e g = g
    shown R4 e g = cc
    shown R5 e g = cc
