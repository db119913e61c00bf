-- A trace depends on the items of the writes that it begins alone: an item is taken at W1, and the slots then number the writes.
use Rattle.std.proofs.Common.{◌≡◌, ℕ, ◌<◌, ◌≤◌, List, [], ◌∷◌, ◌++◌, length, refl, ◌∙◌, ap, arith, length-append}
use Rattle.std.specs.List.{fold}
use Rattle.four_slot_core.specs.declared.schedule.Turn.{Turn}
use Rattle.four_slot_core.specs.declared.schedule.Turn.TheVariants.{Writer, Reader}
use Rattle.four_slot_core.specs.declared.state.State.{State}
use Rattle.four_slot_core.specs.declared.state.Stage.{Stage}
use Rattle.four_slot_core.specs.declared.state.Stage.TheVariants.{W1, W2, W3, W4, W5}
use Rattle.four_slot_core.specs.Events.{after_write, slot_number}
use Rattle.four_slot_core.specs.Traces.{Moment, shown_by_write, then_step, then_writer, Trace, trace, trace_start}

slots_grow : (w : Stage) (slots : List ℕ) (slot : ℕ) → length slots ≤ length (shown_by_write w slots slot)
slots_grow W1 slots slot = omega arith
slots_grow W2 slots slot = omega arith
slots_grow W3 slots slot = omega arith
slots_grow W4 slots slot = omega arith
slots_grow W5 slots slot = omega (arith, length-append slots (slot ∷ []))

module _ {R : Type 0} where
  abbrev steps : (ℕ → R) → Trace R → List Moment → Trace R
  steps items t ms = fold (λ (u : Trace R) (m : Moment). then_step items u m.turn m.at) t ms

  step_grows : (items : ℕ → R) (t : Trace R) (turn : Turn) (at : ℕ) → length t.write_slots ≤ length (then_step items t turn at).write_slots
  step_grows items t Writer at =
      slots_grow t.cell.writer t.write_slots (slot_number (after_write t.cell.writer (items (length t.write_slots)) t.cell).write)
  step_grows items t Reader at = omega arith

  steps_grow : (items : ℕ → R) (t : Trace R) (ms : List Moment) → length t.write_slots ≤ length (steps items t ms).write_slots
  steps_grow items t [] = omega arith
  steps_grow items t (m ∷ ms) = omega (arith, step_grows items t m.turn m.at, steps_grow items (then_step items t m.turn m.at) ms)

  -- the item counts at W1 alone, where the list of slots grows
  same_after : (w : Stage) (x y : R) (s : State R) (slots : List ℕ) (n : ℕ) →
      length (shown_by_write w slots (slot_number (after_write w x s).write)) ≤ n →
      (length slots < n → x ≡ y) → after_write w x s ≡ after_write w y s
  same_after W1 x y s slots n le h = refl
  same_after W2 x y s slots n le h = refl
  same_after W3 x y s slots n le h = refl
  same_after W4 x y s slots n le h = refl
  same_after W5 x y s slots n le h =
      let slot : ℕ = slot_number (after_write W5 x s).write in
      ap (λ z. after_write W5 z s) (h (omega (arith, le, length-append slots (slot ∷ []))))

  same_writer : (at n : ℕ) (x y : R) (t : Trace R) → length (then_writer at x t).write_slots ≤ n → (length t.write_slots < n → x ≡ y) →
      then_writer at x t ≡ then_writer at y t
  same_writer at n x y t le h =
      let with_cell : State R → Trace R = λ c. record {
        cell = c;
        writer = t.writer ++ at ∷ [];
        reader = t.reader;
        write_slots = shown_by_write t.cell.writer t.write_slots (slot_number c.write);
        read_slots = t.read_slots;
        answers = t.answers;
      } in
      ap with_cell (same_after t.cell.writer x y t.cell t.write_slots n le h)

  same_step : (items others : ℕ → R) (n : ℕ) (t : Trace R) (turn : Turn) (at : ℕ) → length (then_step items t turn at).write_slots ≤ n →
      ((k : ℕ) → k < n → items k ≡ others k) → then_step items t turn at ≡ then_step others t turn at
  same_step items others n t Writer at le same =
      same_writer at n (items (length t.write_slots)) (others (length t.write_slots)) t le (λ l. same (length t.write_slots) l)
  same_step items others n t Reader at le same = refl

  same_steps : (items others : ℕ → R) (t : Trace R) (ms : List Moment) →
      ((k : ℕ) → k < length (steps items t ms).write_slots → items k ≡ others k) → steps items t ms ≡ steps others t ms
  same_steps items others t [] same = refl
  same_steps items others t (m ∷ ms) same =
      let next : Trace R = then_step items t m.turn m.at in
      same_steps items others next ms same
      ∙ ap (λ u. steps others u ms)
      (same_step items others (length (steps items next ms).write_slots) t m.turn m.at (steps_grow items next ms) same)

  pub trace_of_items : (opening noise : R) (items others : ℕ → R) (ms : List Moment) →
      ((k : ℕ) → k < length (trace opening noise items ms).write_slots → items k ≡ others k) →
      trace opening noise items ms ≡ trace opening noise others ms
  trace_of_items opening noise items others ms same = same_steps items others (trace_start opening noise) ms same
