-- How many steps each side of a trace has made, and the slots of the operations under way: by cases on the stage.
use Rattle.std.proofs.Common.{◌≡◌, ℕ, ◌+◌, ◌*◌, ◌≤◌, List, [], ◌∷◌, length, Some, refl, sym, subst, ◌∙◌, ap, arith}
use Rattle.std.proofs.Common.{length-append}
use Rattle.four_slot_core.specs.declared.state.State.{State}
use Rattle.four_slot_core.specs.declared.state.Stage.{Stage}
use Rattle.four_slot_core.specs.declared.state.Stage.TheVariants.{W1, W2, W3, W4, W5}
use Rattle.four_slot_core.specs.declared.state.ReaderStage.{ReaderStage}
use Rattle.four_slot_core.specs.declared.state.ReaderStage.TheVariants.{R1, R2, R3, R4, R5}
use Rattle.four_slot_core.specs.Events.{after_read, after_write, answer, next_write, slot_number}
use Rattle.four_slot_core.specs.Invariant.{IsUnderWay, HasIndex}
use Rattle.four_slot_core.specs.Traces.{Trace, shown_by_write, shown_by_read, answered_by_read, then_writer, then_reader, trace_start}
pub use Rattle.four_slot_core.specs.Counts.{has_chosen, HasReadSlot, HasWriteSlot, IsCounted, left, made}
use Rattle.four_slot_core.proofs.events.Keeping.{writer_after, reader_after, writer_stays}
use Rattle.four_slot_core.proofs.Pushed.{get_last, below_more, below_up}

write_count : (w : Stage) (n : ℕ) (slots : List ℕ) (slot : ℕ) → n + left w ≡ length slots * 5 →
    (n + 1) + left (next_write w) ≡ length (shown_by_write w slots slot) * 5
write_count W1 n slots slot h = omega arith
write_count W2 n slots slot h = omega arith
write_count W3 n slots slot h = omega arith
write_count W4 n slots slot h = omega arith
write_count W5 n slots slot h = omega (arith, length-append slots (slot ∷ []))

write_slot_after : {R : Type 0} (w : Stage) (x : R) (s : State R) (slots : List ℕ) → HasWriteSlot w slots (slot_number s.write) →
    HasWriteSlot (next_write w) (shown_by_write w slots (slot_number (after_write w x s).write)) (slot_number (after_write w x s).write)
write_slot_after W1 x s slots h u k e = h tt k e
write_slot_after W2 x s slots h u k e = h tt k e
write_slot_after W3 x s slots h u k e = h tt k e
write_slot_after W4 x s slots h u k e = absurd u
write_slot_after W5 x s slots h u k e =
    let slot : ℕ = slot_number (after_write W5 x s).write in
    get_last slots slot k (omega (arith, length-append slots (slot ∷ [])))

read_of_write : {R : Type 0} (w : Stage) (x : R) (s : State R) → (after_write w x s).read ≡ s.read
read_of_write W1 x s = refl
read_of_write W2 x s = refl
read_of_write W3 x s = refl
read_of_write W4 x s = refl
read_of_write W5 x s = refl

pub write_of_read : {R : Type 0} (r : ReaderStage) (s : State R) → (after_read r s).write ≡ s.write
write_of_read R1 s = refl
write_of_read R2 s = refl
write_of_read R3 s = refl
write_of_read R4 s = refl
write_of_read R5 s = refl

pub counted_write : {R : Type 0} (at : ℕ) (x : R) (t : Trace R) (next : ℕ) → next ≤ at → IsCounted t next →
    IsCounted (then_writer at x t) (at + 1)
counted_write {R} at x t next le h =
    let s : State R = t.cell in
    let w : Stage = s.writer in
    let slot : ℕ = slot_number (after_write w x s).write in
    record {
      writer =
          omega (
            arith,
            length-append t.writer (at ∷ []),
            ap left (writer_after w x s),
            write_count w (length t.writer) t.write_slots slot h.writer,
          );
      reader = h.reader ∙ ap (λ r. length t.answers * 5 + made r) (sym (reader_after w x s));
      read_slots = h.read_slots ∙ ap (λ r. length t.answers + has_chosen r) (sym (reader_after w x s));
      writer_below = below_more t.writer next at le h.writer_below;
      reader_below = below_up t.reader next at le h.reader_below;
      write_slot =
          let P : Stage → Type 0 = λ v. HasWriteSlot v (shown_by_write w t.write_slots slot) slot in
          subst P (sym (writer_after w x s)) (write_slot_after w x s t.write_slots h.write_slot);
      read_slot = λ i.
          let j : HasIndex s.reader = subst HasIndex (reader_after w x s) i in
          h.read_slot j ∙ ap (λ p. Some (slot_number p)) (sym (read_of_write w x s));
    }

read_count : {R : Type 0} (r : ReaderStage) (n : ℕ) (s : State R) (answers : List R) (x : R) → n ≡ length answers * 5 + made r →
    n + 1 ≡ length (answered_by_read r answers x) * 5 + made (after_read r s).reader
read_count R1 n s answers x h = omega arith
read_count R2 n s answers x h = omega arith
read_count R3 n s answers x h = omega arith
read_count R4 n s answers x h = omega (arith, length-append answers (x ∷ []))
read_count R5 n s answers x h = omega arith

chosen_count : {R : Type 0} (r : ReaderStage) (s : State R) (slots : List ℕ) (answers : List R) (slot : ℕ) (x : R) →
    length slots ≡ length answers + has_chosen r →
    length (shown_by_read r slots slot) ≡ length (answered_by_read r answers x) + has_chosen (after_read r s).reader
chosen_count R1 s slots answers slot x h = h
chosen_count R2 s slots answers slot x h = omega (arith, length-append slots (slot ∷ []))
chosen_count R3 s slots answers slot x h = h
chosen_count R4 s slots answers slot x h = omega (arith, length-append answers (x ∷ []))
chosen_count R5 s slots answers slot x h = h

read_slot_after : {R : Type 0} (r : ReaderStage) (s : State R) (slots : List ℕ) (answers : List R) (x : R) →
    length slots ≡ length answers + has_chosen r → HasReadSlot r slots answers (slot_number s.read) → HasReadSlot (after_read r s).reader
    (shown_by_read r slots (slot_number (after_read r s).read)) (answered_by_read r answers x) (slot_number (after_read r s).read)
read_slot_after R1 s slots answers x c h i = absurd i
read_slot_after R2 s slots answers x c h i = get_last slots (slot_number (after_read R2 s).read) (length answers) (omega arith)
read_slot_after R3 s slots answers x c h i = h tt
read_slot_after R4 s slots answers x c h i = absurd i
read_slot_after R5 s slots answers x c h i = absurd i

pub counted_read : {R : Type 0} (at : ℕ) (t : Trace R) (next : ℕ) → next ≤ at → IsCounted t next → IsCounted (then_reader at t) (at + 1)
counted_read {R} at t next le h =
    let s : State R = t.cell in
    let r : ReaderStage = s.reader in
    let slot : ℕ = slot_number (after_read r s).read in
    record {
      writer = ap (λ w. length t.writer + left w) (writer_stays r s) ∙ h.writer;
      reader = length-append t.reader (at ∷ []) ∙ read_count r (length t.reader) s t.answers (answer s) h.reader;
      read_slots = chosen_count r s t.read_slots t.answers slot (answer s) h.read_slots;
      writer_below = below_up t.writer next at le h.writer_below;
      reader_below = below_more t.reader next at le h.reader_below;
      write_slot = λ u k e.
          let v : IsUnderWay s.writer = subst IsUnderWay (writer_stays r s) u in
          h.write_slot v k e ∙ ap (λ p. Some (slot_number p)) (sym (write_of_read r s));
      read_slot = read_slot_after r s t.read_slots t.answers (answer s) h.read_slots h.read_slot;
    }

pub counted_start : {R : Type 0} (opening noise : R) → IsCounted (trace_start opening noise) 0
counted_start opening noise = record {
  writer = refl;
  reader = refl;
  read_slots = refl;
  writer_below = λ i p e. cc;
  reader_below = λ i p e. cc;
  write_slot = λ u k e. absurd u;
  read_slot = λ i. absurd i;
}
