-- Every record in a trace is the opening or a write's item, by its number: only W1 brings a record in, and only W3 moves one.
use Rattle.std.proofs.Common.{◌≡◌, ℕ, Bool, true, false, slice_get, Some, refl, sym, subst, ◌∙◌, ap, inl, inr}
use Rattle.std.specs.Prelude.{if◌then◌else◌}
use Rattle.four_slot_core.specs.declared.state.Slot.{Slot}
use Rattle.four_slot_core.specs.declared.state.State.{State}
use Rattle.four_slot_core.specs.declared.state.Stage.{Stage}
use Rattle.four_slot_core.specs.declared.state.Stage.TheVariants.{W1, W2, W3, W4, W5}
use Rattle.four_slot_core.specs.declared.state.ReaderStage.{ReaderStage}
use Rattle.four_slot_core.specs.declared.state.ReaderStage.TheVariants.{R1, R2, R3, R4, R5}
use Rattle.four_slot_core.specs.Events.{after_read, after_write, answer, opening_state, record_in, with_record}
use Rattle.four_slot_core.specs.Invariant.{IsReading, IsUnmet}
use Rattle.four_slot_core.specs.Traces.{Trace, then_writer, then_reader, trace_start, source_record}
use Rattle.four_slot_core.proofs.events.TwoSides.{record_same, record_other}
use Rattle.four_slot_core.proofs.traces.Fresh.{answers_was}
use Rattle.four_slot_core.proofs.traces.Sources.{slot_cases, records_stay}

-- the record is the one with its number
abbrev pub IsKnown : {R : Type 0} → (R → ℕ) → R → (ℕ → R) → R → Type 0
IsKnown num opening items x = x ≡ source_record opening items (num x)

pub record HasKnown {R : Type 0} (num : R → ℕ) (opening : R) (items : ℕ → R) (t : Trace R) : Type 0 where
  pub slots : (q : Slot) → IsKnown num opening items (record_in t.cell.records q)
  pub item : IsKnown num opening items t.cell.item
  pub answers : (m : ℕ) (x : R) → slice_get t.answers m ≡ Some x → IsKnown num opening items x

item_after : {R : Type 0} (P : R → Type 0) (w : Stage) (x : R) (s : State R) → P x → P s.item → P (after_write w x s).item
item_after P W1 x s new old = old
item_after P W2 x s new old = old
item_after P W3 x s new old = old
item_after P W4 x s new old = old
item_after P W5 x s new old = new

slots_after : {R : Type 0} (P : R → Type 0) (w : Stage) (x : R) (s : State R) → P s.item → ((q : Slot) → P (record_in s.records q)) →
    (q : Slot) → P (record_in (after_write w x s).records q)
slots_after P W1 x s i h q = h q
slots_after P W2 x s i h q = elim (slot_cases q s.write) [
  | inl e ↦ subst P (sym (ap (λ p. record_in (with_record s.records s.write s.item) p) e ∙ record_same s.records s.write s.item)) i
  | inr ne ↦ subst P (sym (record_other s.records s.write q s.item ne)) (h q)
]
slots_after P W3 x s i h q = h q
slots_after P W4 x s i h q = h q
slots_after P W5 x s i h q = h q

pub known_write : {R : Type 0} (num : R → ℕ) (opening : R) (items : ℕ → R) (at : ℕ) (x : R) (t : Trace R) → IsKnown num opening items x →
    HasKnown num opening items t → HasKnown num opening items (then_writer at x t)
known_write {R} num opening items at x t new h =
    let P : R → Type 0 = IsKnown num opening items in
    record {
      slots = slots_after P t.cell.writer x t.cell h.item h.slots;
      item = item_after P t.cell.writer x t.cell new h.item;
      answers = h.answers;
    }

item_stays : {R : Type 0} (r : ReaderStage) (s : State R) → (after_read r s).item ≡ s.item
item_stays R1 s = refl
item_stays R2 s = refl
item_stays R3 s = refl
item_stays R4 s = refl
item_stays R5 s = refl

pub known_read : {R : Type 0} (num : R → ℕ) (opening : R) (items : ℕ → R) (at : ℕ) (t : Trace R) → IsUnmet t.cell →
    HasKnown num opening items t → HasKnown num opening items (then_reader at t)
known_read {R} num opening items at t calm h =
    let P : R → Type 0 = IsKnown num opening items in
    let s : State R = t.cell in
    record {
      slots = λ q. subst P (ap (λ z. record_in z q) (sym (records_stay s.reader s))) (h.slots q);
      item = subst P (sym (item_stays s.reader s)) h.item;
      answers = λ m x e. elim (answers_was s.reader t.answers (answer s) m x e) [
        | inl was ↦ h.answers m x was
        | inr new ↦
            let quiet : s.met ≡ false = calm (subst IsReading (sym new.0) tt) in
            let is : record_in s.records s.read ≡ x = ap (λ b. if b then s.noise else record_in s.records s.read) (sym quiet) ∙ sym new.2 in
            subst P is (h.slots s.read)
      ];
    }

pub known_start : {R : Type 0} (num : R → ℕ) (opening noise : R) (items : ℕ → R) → num opening ≡ 0 →
    HasKnown num opening items (trace_start opening noise)
known_start {R} num opening noise items z =
    let known : IsKnown num opening items opening = ap (source_record opening items) (sym z) in
    record {
      slots = λ q. all_opening q.pair q.index known;
      item = known;
      answers = λ m x e. cc;
    }
  where
    all_opening : (a b : Bool) → IsKnown num opening items opening →
        IsKnown num opening items (record_in (opening_state opening noise).records (record { pair = a; index = b }))
    all_opening true true k = k
    all_opening true false k = k
    all_opening false true k = k
    all_opening false false k = k
