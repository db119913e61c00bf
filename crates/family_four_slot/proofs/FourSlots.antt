-- Each of the six control accesses is a step of a family of four-slot cells: the steps of one cell are cited as they stand.
use Rattle.std.proofs.Common.{◌≡◌, ℕ, ◌+◌, ◌<◌, ◌≤◌, List, [], ◌∷◌, ◌++◌, length, refl, sym, ap, ◌∙◌, subst, arith}
use mathlib.Core.Option.{none}
use Rattle.std.specs.Prelude.{Option, None, Some}
use Rattle.atomic_table.specs.Table.{State, Me, step, Allows}
use Rattle.four_slot_core.specs.declared.state.Slot.{Slot}
use Rattle.four_slot_core.specs.declared.state.Stage.TheVariants as writer
use Rattle.four_slot_core.specs.declared.state.ReaderStage.TheVariants as reader
use Rattle.four_slot_core.specs.Events.{bit_number, slot_number}
use Rattle.cell_contract.specs.Running.{last_or, held_slots}
use Rattle.cell_four_slot.specs.declared.notes.WriterNotes.{WriterNotes}
use Rattle.cell_four_slot.specs.declared.notes.ReaderNotes.{ReaderNotes}
use Rattle.cell_contract.specs.declared.sight.Sight.TheVariants.{Spent, Writer, Reader}
use Rattle.cell_four_slot.specs.Steps.{FourSlotSight, begins, stores, finishes_counting, asks, says_counting, takes, slot_of_choice}
use Rattle.cell_four_slot.specs.Steps.{clock_of, begun_with, stored_by, finished_with, asked_by, said_with, got_by}
use Rattle.family_table.specs.declared.notes.Process.{Process}
use Rattle.family_table.specs.declared.notes.View.{View}
use Rattle.family_table.specs.declared.notes.View.TheVariants.{Has}
use Rattle.family_table.specs.Layouts.{shift, Inside}
use Rattle.family_four_slot.specs.Places.{four_slots, word_at, slot_at}
use Rattle.family_table.specs.Family.{of_cell, knows, CellAllows, StepTells}
use Rattle.family_four_slot.specs.FourSlots.{When, CellRule, FourSlotFamily, Shaped}
use Rattle.family_four_slot.specs.Plans.{MayAsk, MayBegin, MayFinish, MaySayPair, MayStore, MayTake}
use Rattle.cell_four_slot.proofs.Keeps.{begins_at, stores_at, finishes_at, asks_at, says_at, takes_at}
use Rattle.cell_four_slot.proofs.Slots.{bit_low, slot_low}
use Rattle.family_four_slot.specs.Laid.{is_layout}
use Rattle.family_four_slot.proofs.Shapes.{both_read, both_write, shape_after, SameKind}
use Rattle.family_table.proofs.Steps.{family_allows}

module _ {T : Type 0} (fits : T → Type 0) (rises : T → T → Type 0) (o : T) where
  abbrev V : Type 0
  V = FourSlotSight T

  abbrev Rule : ℕ → State T V → Type 0
  Rule = CellRule fits rises o

  pub rule_later : (now t : ℕ) (s : State T V) → now ≤ t → Rule now s → Rule t s
  rule_later now t s l r = let m : r.0.now ≤ now = r.1 in (r.0, (let z : r.0.now ≤ t = omega arith in z))

  -- what one cell allows, as a cell of a family of n processes
  module _ (Plan : ℕ → Process V → Type 0) (n : ℕ) where
    abbrev Cell : ℕ → Me T V → ℕ → (ℕ → ℕ) → (ℕ → ℕ → Me T V → Type 0) → Type 0
    Cell = CellAllows Rule

    begins_by : (id : ℕ) (p : WriterNotes T) (items : List T) (x : T) → p.stage ≡ writer.W5 → items ≡ x ∷ [] → fits x →
        rises (last_or p.opening.value p.written) x →
        Cell id (Writer p, []) 1 (λ m. m) (When (begins items (step 4 1 0 0 none) (Writer p, [])))
    begins_by id p items x idle item f up now t lt s r at =
        let m : r.0.now ≤ now = r.1 in
        let known = r.0.each_seat id (Writer p) at in
        let view : V = Writer p in
        let h = subst (λ (q : WriterNotes T). (view ≡ Writer q) × (q.stage ≡ writer.W5) × rises (last_or q.opening.value q.written) x)
        known.0 (refl, idle, up) in
        let y = begins_at fits rises o s r.0 t (omega arith) 4 id (Writer p, []) items x known.1 h.0 refl h.1 item f
        (subst (λ (z : T). rises (last_or z r.0.put.written) x) r.0.openings.0 h.2) in
        (y.0, y.1, y.3, y.4, y.5, (y.6, y.2))

    stores_by : (id : ℕ) (p : WriterNotes T) (i new : ℕ) → p.stage ≡ writer.W3 → i ≡ 2 + bit_number p.slot.pair →
        new ≡ bit_number p.slot.index → Cell id (Writer p, (slot_number p.slot, p.item.value) ∷ []) i (λ _. new)
        (λ t _. When (stores (step 4 i new 0 none) (Writer p, (slot_number p.slot, p.item.value) ∷ [])) t new)
    stores_by id p i new stage word to now t lt s r at =
        let m : r.0.now ≤ now = r.1 in
        let known = r.0.each_seat id (Writer p) at in
        let view : V = Writer p in
        let cs : List (ℕ × T) = (slot_number p.slot, p.item.value) ∷ [] in
        let h = subst (λ (q : WriterNotes T). (view ≡ Writer q) × (cs ≡ (slot_number q.slot, q.item.value) ∷ []) × (q.stage ≡ writer.W3)
        × (i ≡ 2 + bit_number q.slot.pair) × (new ≡ bit_number q.slot.index)) known.0 (refl, refl, stage, word, to) in
        let y = stores_at fits rises o s r.0 t (omega arith) 4 id (Writer p, cs) i new known.1 h.0 h.1 h.2 h.3 h.4 in
        (y.0, y.1, y.3, y.4, y.5, (y.6, y.2))

    finishes_by : (count : ℕ) → count ≤ 1 → (id : ℕ) (p : WriterNotes T) (new : ℕ) → p.stage ≡ writer.W4 → new ≡ bit_number p.slot.pair →
        Cell id (Writer p, []) 0 (λ _. new) (λ t _. When (finishes_counting count (step 4 0 new 0 none) (Writer p, [])) t new)
    finishes_by count few id p new stage to now t lt s r at =
        let m : r.0.now ≤ now = r.1 in
        let known = r.0.each_seat id (Writer p) at in
        let view : V = Writer p in
        let h = subst (λ (q : WriterNotes T). (view ≡ Writer q) × (q.stage ≡ writer.W4) × (new ≡ bit_number q.slot.pair))
        known.0 (refl, stage, to) in
        let y = finishes_at fits rises o count few s r.0 t (omega arith) 4 id (Writer p, []) new known.1 h.0 h.1 h.2 in
        (y.0, y.1, y.3, y.4, y.5, (y.6, y.2))

    asks_by : (id : ℕ) (g : ReaderNotes T) → g.stage ≡ reader.R5 →
        Cell id (Reader g, []) 0 (λ m. m) (When (asks (step 4 0 0 0 none) (Reader g, [])))
    asks_by id g stage now t lt s r at =
        let m : r.0.now ≤ now = r.1 in
        let known = r.0.each_seat id (Reader g) at in
        let view : V = Reader g in
        let h = subst (λ (q : ReaderNotes T). (view ≡ Reader q) × (q.stage ≡ reader.R5)) known.0 (refl, stage) in
        let y = asks_at fits rises o s r.0 t (omega arith) 4 id (Reader g, []) known.1 h.0 h.1 in
        (y.0, y.1, y.3, y.4, y.5, (y.6, y.2))

    says_by : (count : ℕ) → count ≤ 1 → (id : ℕ) (g : ReaderNotes T) (new : ℕ) → g.stage ≡ reader.R1 → new ≡ bit_number g.slot.pair →
        Cell id (Reader g, slot_of_choice g.chosen g.at_hand.value) 1 (λ _. new)
        (λ t _. When (says_counting count (step 4 1 new 0 none) (Reader g, slot_of_choice g.chosen g.at_hand.value)) t new)
    says_by count few id g new stage to now t lt s r at =
        let m : r.0.now ≤ now = r.1 in
        let known = r.0.each_seat id (Reader g) at in
        let view : V = Reader g in
        let cs : List (ℕ × T) = slot_of_choice g.chosen g.at_hand.value in
        let h = subst (λ (q : ReaderNotes T). (view ≡ Reader q) × (cs ≡ slot_of_choice q.chosen q.at_hand.value) × (q.stage ≡ reader.R1)
        × (new ≡ bit_number q.slot.pair)) known.0 (refl, refl, stage, to) in
        let y = says_at fits rises o count few s r.0 t (omega arith) 4 id (Reader g, cs) new known.1 h.0 h.1 h.2 h.3 in
        (y.0, y.1, y.3, y.4, y.5, (y.6, y.2))

    takes_by : ((a : T) → rises a a) → ((a b c : T) → rises a b → rises b c → rises a c) → (id : ℕ) (g : ReaderNotes T) (i : ℕ) →
        g.stage ≡ reader.R2 → i ≡ 2 + bit_number g.slot.pair →
        Cell id (Reader g, []) i (λ m. m) (When (takes fits rises (step 4 i 0 0 none) (Reader g, [])))
    takes_by same along id g i stage word now t lt s r at =
        let m : r.0.now ≤ now = r.1 in
        let known = r.0.each_seat id (Reader g) at in
        let view : V = Reader g in
        let h = subst (λ (q : ReaderNotes T). (view ≡ Reader q) × (q.stage ≡ reader.R2) × (i ≡ 2 + bit_number q.slot.pair))
        known.0 (refl, stage, word) in
        let y = takes_at fits rises o same along s r.0 t (omega arith) 4 id (Reader g, []) i known.1 h.0 refl h.1 h.2 in
        (y.0, y.1, y.3, y.4, y.5, (y.6, y.2))

    -- the family's steps
    abbrev Family : State T (View V) → Type 0
    Family = FourSlotFamily fits rises o Plan n

    abbrev Says : ℕ → Process V → List (ℕ × T) → List (ℕ × T) → (ℕ → ℕ → Me T V → Type 0) → ℕ → Me T (View V) → Type 0
    Says = StepTells Spent slot_at

    allows : (slots id k i : ℕ) (v : Process V) (before c behind : List (ℕ × T)) (f : ℕ → ℕ) (happens : V → ℕ → ℕ → Me T V → Type 0)
        (u : V) → i < 4 → k < (four_slots n).cells → k < length v.parts → Inside 4 c → of_cell Spent k v.parts ≡ u →
        v.held ≡ held_slots (before ++ (shift (slot_at k) c ++ behind)) → Cell v.who (u, c) i f (happens u) →
        ((t m : ℕ) (w : V) (d : List (ℕ × T)) → v.clock < t → happens u t m (w, d) → SameKind u w ×
        Plan v.who (knows Spent v k w t (held_slots (before ++ (shift (slot_at k) d ++ behind)))))
        → Allows Family slots id (Has (v ∷ []), before ++ (shift (slot_at k) c ++ behind)) (word_at k i) f
        (Says k v before behind (happens (of_cell Spent k v.parts)))
    allows slots id k i v before c behind f happens u li lk has inside is held allowed goes =
        family_allows Spent (four_slots n) (is_layout n) Rule (Shaped n Plan) rule_later n slots id k i v before c behind f
        (happens (of_cell Spent k v.parts)) li lk has inside held
        (subst (λ (z : V). Cell v.who (z, c) i f (happens z)) (sym is) allowed)
        (λ t m w d lt h f'.
        let g = goes t m w d lt (subst (λ (z : V). happens z t m (w, d)) is h) in (
          shape_after n v.who k t v w (held_slots (before ++ (shift (slot_at k) d ++ behind))) has
              (subst (λ (z : V). SameKind z w) (sym is) g.0) f'.0,
          g.1,
        ))

    -- the plan of what a step makes of a cell at a time that it tells
    planned_at : (v : Process V) (k : ℕ) (q : ℕ → V) (u t : ℕ) (w : V) (held : List ℕ) → ((z : ℕ) → clock_of (q z) ≡ z) → w ≡ q u →
        clock_of w ≡ t → Plan v.who (knows Spent v k (q t) t held) → Plan v.who (knows Spent v k w t held)
    planned_at v k q u t w held clocks is now h =
        let same : u ≡ t = sym (clocks u) ∙ (sym (ap clock_of is) ∙ now) in
        subst (λ (z : V). Plan v.who (knows Spent v k z t held)) (sym (is ∙ ap q same)) h

    pub family_begins : (slots id k : ℕ) (v : Process V) (behind : List (ℕ × T)) (p : WriterNotes T) (items : List T) (x : T) →
        k < (four_slots n).cells → k < length v.parts → of_cell Spent k v.parts ≡ Writer p → v.held ≡ held_slots behind →
        p.stage ≡ writer.W5 → items ≡ x ∷ [] → fits x → rises (last_or p.opening.value p.written) x → MayBegin Plan k v p x
        → Allows Family slots id (Has (v ∷ []), behind) (word_at k 1) (λ m. m)
        (Says k v [] behind (When (begins items (step 4 1 0 0 none) (of_cell Spent k v.parts, []))))
    family_begins slots id k v behind p items x lk has is held stage item f up may =
        allows slots id k 1 v [] [] behind (λ m. m) (λ z. When (begins items (step 4 1 0 0 none) (z, []))) (Writer p)
        (let z : 1 < 4 = omega arith in z) lk has tt is held (begins_by v.who p items x stage item f up)
        (λ t m w d lt h.
        let held' : List ℕ = held_slots (shift (slot_at k) d ++ behind) in
        let e = h.0 p x refl item in (
          both_write p (begun_with p e.0 x e.3) w e.5,
          planned_at v k (λ z. Writer (begun_with p e.0 x z)) e.3 t w held' (λ z. refl) e.5 h.1 (may e.0 t held' lt),
        ))

    pub family_stores : (slots id k i new : ℕ) (v : Process V) (behind : List (ℕ × T)) (p : WriterNotes T) →
        k < (four_slots n).cells → k < length v.parts → of_cell Spent k v.parts ≡ Writer p →
        v.held ≡ slot_at k (slot_number p.slot) ∷ held_slots behind → p.stage ≡ writer.W3 → i ≡ 2 + bit_number p.slot.pair →
        new ≡ bit_number p.slot.index → MayStore Plan k v p
        → Allows Family slots id (Has (v ∷ []), (slot_at k (slot_number p.slot), p.item.value) ∷ behind) (word_at k i) (λ _. new)
        (Says k v [] behind (λ t _. When
        (stores (step 4 i new 0 none) (of_cell Spent k v.parts, (slot_number p.slot, p.item.value) ∷ [])) t new))
    family_stores slots id k i new v behind p lk has is held stage word to may =
        let cs : List (ℕ × T) = (slot_number p.slot, p.item.value) ∷ [] in
        allows slots id k i v [] cs behind (λ _. new) (λ z t _. When (stores (step 4 i new 0 none) (z, cs)) t new) (Writer p)
        (let l = bit_low p.slot.pair in let z : i < 4 = omega arith in z) lk has (slot_low p.slot, tt) is held
        (stores_by v.who p i new stage word to)
        (λ t m w d lt h.
        let held' : List ℕ = held_slots (shift (slot_at k) d ++ behind) in
        let e = h.0 p refl refl in (
          both_write p (stored_by p e.0) w e.2,
          planned_at v k (λ z. Writer (stored_by p z)) e.0 t w held' (λ z. refl) e.2 h.1 (may t held' lt),
        ))

    pub family_finishes : (count : ℕ) → count ≤ 1 → (slots id k new : ℕ) (v : Process V) (behind : List (ℕ × T)) (p : WriterNotes T) →
        k < (four_slots n).cells → k < length v.parts → of_cell Spent k v.parts ≡ Writer p → v.held ≡ held_slots behind →
        p.stage ≡ writer.W4 → new ≡ bit_number p.slot.pair → MayFinish Plan k v p
        → Allows Family slots id (Has (v ∷ []), behind) (word_at k 0) (λ _. new)
        (Says k v [] behind (λ t _. When (finishes_counting count (step 4 0 new 0 none) (of_cell Spent k v.parts, [])) t new))
    family_finishes count few slots id k new v behind p lk has is held stage to may =
        allows slots id k 0 v [] [] behind (λ _. new) (λ z t _. When (finishes_counting count (step 4 0 new 0 none) (z, [])) t new)
        (Writer p)
        (let z : 0 < 4 = omega arith in z) lk has tt is held (finishes_by count few v.who p new stage to)
        (λ t m w d lt h.
        let held' : List ℕ = held_slots (shift (slot_at k) d ++ behind) in
        let e = h.0 p refl in (
          both_write p (finished_with p count e.0) w e.2,
          planned_at v k (λ z. Writer (finished_with p count z)) e.0 t w held' (λ z. refl) e.2 h.1 (may count t held' lt),
        ))

    pub family_asks : (slots id k : ℕ) (v : Process V) (behind : List (ℕ × T)) (g : ReaderNotes T) →
        k < (four_slots n).cells → k < length v.parts → of_cell Spent k v.parts ≡ Reader g → v.held ≡ held_slots behind →
        g.stage ≡ reader.R5 → MayAsk Plan k v g
        → Allows Family slots id (Has (v ∷ []), behind) (word_at k 0) (λ m. m)
        (Says k v [] behind (When (asks (step 4 0 0 0 none) (of_cell Spent k v.parts, []))))
    family_asks slots id k v behind g lk has is held stage may =
        allows slots id k 0 v [] [] behind (λ m. m) (λ z. When (asks (step 4 0 0 0 none) (z, []))) (Reader g)
        (let z : 0 < 4 = omega arith in z) lk has tt is held (asks_by v.who g stage)
        (λ t m w d lt h.
        let held' : List ℕ = held_slots (shift (slot_at k) d ++ behind) in
        let e = h.0 g refl in (
          both_read g (asked_by g e.0 e.2) w e.4,
          planned_at v k (λ z. Reader (asked_by g e.0 z)) e.2 t w held' (λ z. refl) e.4 h.1 (may e.0 t held' lt),
        ))

    inside_choice : (ch : Option Slot) (x : T) → Inside 4 (slot_of_choice ch x)
    inside_choice None x = tt
    inside_choice (Some k) x = (slot_low k, tt)

    -- the slot of the read before lies among those of other cells
    pub family_says : (count : ℕ) → count ≤ 1 → (slots id k new : ℕ) (v : Process V) (before behind : List (ℕ × T)) (g : ReaderNotes T) →
        k < (four_slots n).cells → k < length v.parts → of_cell Spent k v.parts ≡ Reader g →
        v.held ≡ held_slots (before ++ (shift (slot_at k) (slot_of_choice g.chosen g.at_hand.value) ++ behind)) → g.stage ≡ reader.R1 →
        new ≡ bit_number g.slot.pair → MaySayPair Plan k v g
        → Allows Family slots id (Has (v ∷ []), before ++ (shift (slot_at k) (slot_of_choice g.chosen g.at_hand.value) ++ behind))
        (word_at k 1)
        (λ _. new) (Says k v before behind
        (λ t _. When (says_counting count (step 4 1 new 0 none) (of_cell Spent k v.parts, slot_of_choice g.chosen g.at_hand.value)) t new))
    family_says count few slots id k new v before behind g lk has is held stage to may =
        let cs : List (ℕ × T) = slot_of_choice g.chosen g.at_hand.value in
        allows slots id k 1 v before cs behind (λ _. new) (λ z t _. When (says_counting count (step 4 1 new 0 none) (z, cs)) t new)
        (Reader g)
        (let z : 1 < 4 = omega arith in z) lk has (inside_choice g.chosen g.at_hand.value) is held (says_by count few v.who g new stage to)
        (λ t m w d lt h.
        let held' : List ℕ = held_slots (before ++ (shift (slot_at k) d ++ behind)) in
        let e = h.0 g refl refl in (
          both_read g (said_with g count e.0) w e.2,
          planned_at v k (λ z. Reader (said_with g count z)) e.0 t w held' (λ z. refl) e.2 h.1 (may count t held' lt),
        ))

    pub family_takes : ((a : T) → rises a a) → ((a b c : T) → rises a b → rises b c → rises a c) → (slots id k i : ℕ) (v : Process V)
        (behind : List (ℕ × T)) (g : ReaderNotes T) → k < (four_slots n).cells → k < length v.parts → of_cell Spent k v.parts ≡ Reader g →
        v.held ≡ held_slots behind → g.stage ≡ reader.R2 → i ≡ 2 + bit_number g.slot.pair → MayTake Plan k v g
        → Allows Family slots id (Has (v ∷ []), behind) (word_at k i) (λ m. m)
        (Says k v [] behind (When (takes fits rises (step 4 i 0 0 none) (of_cell Spent k v.parts, []))))
    family_takes same along slots id k i v behind g lk has is held stage word may =
        allows slots id k i v [] [] behind (λ m. m) (λ z. When (takes fits rises (step 4 i 0 0 none) (z, []))) (Reader g)
        (let l = bit_low g.slot.pair in let z : i < 4 = omega arith in z) lk has tt is held (takes_by same along v.who g i stage word)
        (λ t m w d lt h.
        let held' : List ℕ = held_slots (shift (slot_at k) d ++ behind) in
        let e = h.0 g refl in (
          both_read g (got_by g e.0 e.1 e.3 e.4 e.5) w e.7,
          planned_at v k (λ z. Reader (got_by g e.0 e.1 z e.4 e.5)) e.3 t w held' (λ z. refl) e.7 h.1 (may e.0 e.1 t e.4 e.5 held' lt),
        ))
