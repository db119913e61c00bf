-- A trace whose records are seen through a function is the trace of the records seen so, by induction over its steps.
use Rattle.std.proofs.Common.{◌≡◌, ℕ, List, [], ◌∷◌, ◌++◌, length, map, refl, sym, ◌∙◌, ap}
use Rattle.std.specs.List.{fold}
use Rattle.four_slot_core.specs.declared.schedule.Turn.{Turn}
use Rattle.four_slot_core.specs.declared.schedule.Turn.TheVariants.{Writer, Reader}
use Rattle.four_slot_core.specs.declared.state.State.{State}
use Rattle.four_slot_core.specs.declared.state.ReaderStage.{ReaderStage}
use Rattle.four_slot_core.specs.declared.state.ReaderStage.TheVariants.{R1, R2, R3, R4, R5}
use Rattle.four_slot_core.specs.Events.{after_read, answer, slot_number}
use Rattle.four_slot_core.specs.Traces.{Moment, Trace, shown_by_write, shown_by_read, answered_by_read, then_writer, then_reader, then_step}
use Rattle.four_slot_core.specs.Traces.{trace, trace_start}
use Rattle.four_slot_core.proofs.events.Mapped.{map_state, write_mapped, read_mapped, answer_mapped}

abbrev pub map_trace : {A B : Type 0} → (A → B) → Trace A → Trace B
map_trace f t =
    record {
      cell = map_state f t.cell;
      writer = t.writer;
      reader = t.reader;
      write_slots = t.write_slots;
      read_slots = t.read_slots;
      answers = map f t.answers;
    }

writer_mapped : {A B : Type 0} (f : A → B) (at : ℕ) (x : A) (t : Trace A) →
    then_writer at (f x) (map_trace f t) ≡ map_trace f (then_writer at x t)
writer_mapped {A} {B} f at x t =
    let with_cell : State B → Trace B = λ c. record {
      cell = c;
      writer = t.writer ++ at ∷ [];
      reader = t.reader;
      write_slots = shown_by_write t.cell.writer t.write_slots (slot_number c.write);
      read_slots = t.read_slots;
      answers = map f t.answers;
    } in
    ap with_cell (write_mapped f t.cell.writer x t.cell)

map_more : {A B : Type 0} (f : A → B) (xs : List A) (x : A) → map f (xs ++ x ∷ []) ≡ map f xs ++ f x ∷ []
map_more f [] x = refl
map_more f (y ∷ xs) x = ap (λ ys. f y ∷ ys) (map_more f xs x)

answers_mapped : {A B : Type 0} (f : A → B) (r : ReaderStage) (xs : List A) (x : A) →
    answered_by_read r (map f xs) (f x) ≡ map f (answered_by_read r xs x)
answers_mapped f R1 xs x = refl
answers_mapped f R2 xs x = refl
answers_mapped f R3 xs x = refl
answers_mapped f R4 xs x = sym (map_more f xs x)
answers_mapped f R5 xs x = refl

reader_mapped : {A B : Type 0} (f : A → B) (at : ℕ) (t : Trace A) → then_reader at (map_trace f t) ≡ map_trace f (then_reader at t)
reader_mapped {A} {B} f at t =
    let with_parts : State B → List B → Trace B = λ c xs. record {
      cell = c;
      writer = t.writer;
      reader = t.reader ++ at ∷ [];
      write_slots = t.write_slots;
      read_slots = shown_by_read t.cell.reader t.read_slots (slot_number c.read);
      answers = xs;
    } in
    ap (λ c. with_parts c (answered_by_read t.cell.reader (map f t.answers) (answer (map_state f t.cell))))
    (read_mapped f t.cell.reader t.cell)
    ∙ ap (λ x. with_parts (map_state f (after_read t.cell.reader t.cell)) (answered_by_read t.cell.reader (map f t.answers) x))
    (answer_mapped f t.cell)
    ∙ ap (with_parts (map_state f (after_read t.cell.reader t.cell))) (answers_mapped f t.cell.reader t.answers (answer t.cell))

step_mapped : {A B : Type 0} (f : A → B) (items : ℕ → A) (t : Trace A) (turn : Turn) (at : ℕ) →
    then_step (λ k. f (items k)) (map_trace f t) turn at ≡ map_trace f (then_step items t turn at)
step_mapped f items t Writer at = writer_mapped f at (items (length t.write_slots)) t
step_mapped f items t Reader at = reader_mapped f at t

steps_mapped : {A B : Type 0} (f : A → B) (items : ℕ → A) (ms : List Moment) (t : Trace A) → fold
    (λ u m. then_step (λ k. f (items k)) u m.turn m.at) (map_trace f t) ms ≡ map_trace f (fold (λ u m. then_step items u m.turn m.at) t ms)
steps_mapped f items [] t = refl
steps_mapped {A} {B} f items (m ∷ ms) t =
    ap (λ v. fold (λ (u : Trace B) (m : Moment). then_step (λ k. f (items k)) u m.turn m.at) v ms) (step_mapped f items t m.turn m.at)
    ∙ steps_mapped f items ms (then_step items t m.turn m.at)

pub trace_mapped : {A B : Type 0} (f : A → B) (opening noise : A) (items : ℕ → A) (ms : List Moment) →
    trace (f opening) (f noise) (λ k. f (items k)) ms ≡ map_trace f (trace opening noise items ms)
trace_mapped f opening noise items ms = steps_mapped f items ms (trace_start opening noise)
