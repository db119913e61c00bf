-- What each step of a family tells: the family's rule allows it, and says what the seat then knows.
use Rattle.std.proofs.Common.{◌≡◌, ℕ, ◌+◌, ◌<◌, ◌≤◌, Bool, List, [], ◌∷◌, ◌++◌, length, sym, ap, ◌∙◌, subst, arith}
use mathlib.Core.Option.{none}
use Rattle.atomic_table.specs.Table.{State, Me, step, Allows}
use Rattle.four_slot_core.specs.declared.state.Stage.TheVariants as writer
use Rattle.four_slot_core.specs.declared.state.ReaderStage.TheVariants as reader
use Rattle.four_slot_core.specs.Events.{bit_number, slot_number, slot_with}
use Rattle.cell_contract.specs.Running.{last_or, held_slots, IsAnswer}
use Rattle.cell_contract.specs.Sights.{writer_or, reader_or}
use Rattle.cell_contract.specs.declared.times.Known.{Known}
use Rattle.cell_four_slot.specs.declared.notes.WriterNotes.{WriterNotes}
use Rattle.cell_four_slot.specs.declared.notes.ReaderNotes.{ReaderNotes}
use Rattle.cell_contract.specs.declared.sight.Sight.TheVariants.{Spent, Writer, Reader}
use Rattle.cell_contract.specs.Intervals.{AreHeeded}
use Rattle.cell_four_slot.specs.Steps.{FourSlotSight, clock_of, begun_with, stored_by, finished_with, asked_by, said_with, got_by}
use Rattle.cell_four_slot.specs.Steps.{slot_of_choice, HasAnswered}
use Rattle.cell_four_slot.specs.Steps.{begins as cell_begins, stores as cell_stores, finishes_counting as cell_finishes, asks as cell_asks}
use Rattle.cell_four_slot.specs.Steps.{says_counting as cell_says, takes as cell_takes}
use Rattle.family_table.specs.declared.notes.Process.{Process}
use Rattle.family_table.specs.declared.notes.View.{View}
use Rattle.family_table.specs.declared.notes.View.TheVariants.{Told, Has}
use Rattle.family_table.specs.Layouts.{shift}
use Rattle.family_four_slot.specs.Places.{four_slots, word_at, slot_at}
use Rattle.family_table.specs.Family.{of_cell, knows, StepTells}
use Rattle.family_four_slot.specs.FourSlots.{When, FourSlotFamily}
use Rattle.family_four_slot.specs.Plans.{MayAsk, MayBegin, MayFinish, MaySayPair, MayStore, MayTake}
use Rattle.family_four_slot.specs.Steps.{After, begins, stores, finishes_counting, asks, says_counting, takes}
use Rattle.family_four_slot.specs.Laid.{is_layout}
use Rattle.family_four_slot.proofs.FourSlots.{family_begins, family_stores, family_finishes, family_asks, family_says, family_takes}

-- a step that tells more
allows_more : {S V : Type 0} (holds : State S V → Type 0) (slots id : ℕ) (me : Me S V) (i : ℕ) (f : ℕ → ℕ) (a b : ℕ → Me S V → Type 0) →
    ((n : ℕ) (m : Me S V) → a n m → b n m) → Allows holds slots id me i f a → Allows holds slots id me i f b
allows_more holds slots id me i f a b more h s r e at small = let x = h s r e at small in (x.0, x.1, x.2, x.3, more _ _ x.4)

pub has_one : {V : Type 0} (v u : Process V) → Has (v ∷ []) ≡ Has (u ∷ []) → v ≡ u
has_one v u e = ap (only v) e where
  first : {V : Type 0} → Process V → List (Process V) → Process V
  first d [] = d
  first d (x ∷ xs) = x

  only : {V : Type 0} → Process V → View V → Process V
  only d (Told r) = d
  only d (Has ps) = first d ps

module _ {T : Type 0} where
  pub writes_one : (p q : WriterNotes T) → ◌≡◌ {A = FourSlotSight T} (Writer p) (Writer q) → p ≡ q
  writes_one p q e = ap (writer_or p) e

  pub reads_one : (p q : ReaderNotes T) → ◌≡◌ {A = FourSlotSight T} (Reader p) (Reader q) → p ≡ q
  reads_one p q e = ap (reader_or p) e

  -- the notes after a step, by what it tells of the cell and of the slots
  after : (v : Process (FourSlotSight T)) (k t : ℕ) (w w' : FourSlotSight T) (before c behind cs : List (ℕ × T))
      (m : Me T (View (FourSlotSight T))) → v.clock < t → w ≡ w' →
      before ++ (shift (slot_at k) c ++ behind) ≡ cs →
      m.0 ≡ Has (knows Spent v k w t (held_slots m.1) ∷ []) → m.1 ≡ before ++ (shift (slot_at k) c ++ behind) → After v k w' t cs m
  after v k t w w' before c behind cs m lt same slots view held =
      (lt, view ∙ (λ i. Has (knows Spent v k (same i) t (held_slots ((held ∙ slots) i)) ∷ [])), held ∙ slots)

module _ {T : Type 0} (fits : T → Type 0) (rises : T → T → Type 0) (o : T) (n : ℕ)
    (Plan : ℕ → Process (FourSlotSight T) → Type 0) where
  abbrev W : Type 0
  W = FourSlotSight T

  abbrev F : State T (View W) → Type 0
  F = FourSlotFamily fits rises o Plan n

  same_cell : (k j i h : ℕ) → i < 4 → h < 4 → word_at k i ≡ word_at j h → k ≡ j
  same_cell k j i h li lh e = ((is_layout n).word_apart k i j h li lh e).0

  pub begins_ok : (slots id word k : ℕ) (me : Me T (View W)) (v : Process W) (p : WriterNotes T) (items : List T) (x : T) →
      word ≡ word_at k 1 → k < (four_slots n).cells → k < length v.parts → me.0 ≡ Has (v ∷ []) → of_cell Spent k v.parts ≡ Writer p →
      v.held ≡ held_slots me.1 → p.stage ≡ writer.W5 → items ≡ x ∷ [] → fits x → rises (last_or p.opening.value p.written) x →
      MayBegin Plan k v p x → Allows F slots id me word (λ m. m) (begins items (step slots word 0 0 none) me)
  begins_ok slots id word k me v p items x at lk has who is held stage item f up may =
      let cs : List (ℕ × T) = me.1 in
      let told : ℕ → Me T (View W) → Type 0 =
      StepTells Spent slot_at k v [] cs (When (cell_begins items (step 4 1 0 0 none) (of_cell Spent k v.parts, []))) in
      let here : Allows F slots id (Has (v ∷ []), cs) (word_at k 1) (λ m. m)
      (begins items (step slots (word_at k 1) 0 0 none) (Has (v ∷ []), cs)) =
      allows_more F slots id (Has (v ∷ []), cs) (word_at k 1) (λ m. m) told
      (begins items (step slots (word_at k 1) 0 0 none) (Has (v ∷ []), cs))
      (λ m u h k' v' q y w e is' it.
      let P : ℕ × Process W → Type 0 = λ z. of_cell Spent z.0 z.1.parts ≡ Writer q → (b : Bool) × (old : T) × (t : ℕ) × (m ≡ bit_number b)
      × (q.times.clock < t) × After z.1 z.0 (Writer (begun_with q b y t)) t
      ((slot_at z.0 (slot_number (begun_with q b y t).slot), old) ∷ cs) u in
      subst P (λ i. (same_cell k k' 1 1 (omega arith) (omega arith) w i, has_one v v' e i)) (λ known.
      let d = h.4.0 q y known it in
      let now : d.3 ≡ h.0 = sym (ap clock_of d.5) ∙ h.4.1 in (
        d.0,
        d.1,
        h.0,
        d.2,
        subst (λ z. q.times.clock < z) now d.4,
        after v k h.0 h.1 (Writer (begun_with q d.0 y h.0)) [] h.2 cs
            ((slot_at k (slot_number (begun_with q d.0 y h.0).slot), d.1) ∷ cs) u h.3
            (d.5 ∙ ap (λ z. Writer (begun_with q d.0 y z)) now) (ap (λ zs. shift (slot_at k) zs ++ cs) d.6) h.5 h.6,
      )) is')
      (family_begins fits rises o Plan n slots id k v cs p items x lk has is held stage item f up may) in
      subst (λ (z : ℕ × View W). Allows F slots id (z.1, cs) z.0 (λ m. m) (begins items (step slots z.0 0 0 none) (z.1, cs)))
      (λ i. (sym at i, sym who i)) here

  pub stores_ok : (slots id word k i new : ℕ) (me : Me T (View W)) (v : Process W) (p : WriterNotes T) (cs : List (ℕ × T)) →
      word ≡ word_at k i → k < (four_slots n).cells → k < length v.parts → me.0 ≡ Has (v ∷ []) → of_cell Spent k v.parts ≡ Writer p →
      me.1 ≡ (slot_at k (slot_number p.slot), p.item.value) ∷ cs → v.held ≡ held_slots me.1 → p.stage ≡ writer.W3 →
      i ≡ 2 + bit_number p.slot.pair → i < 4 → new ≡ bit_number p.slot.index → MayStore Plan k v p →
      Allows F slots id me word (λ _. new) (λ _. stores (step slots word new 0 none) me new)
  stores_ok slots id word k i new me v p cs at lk has who is slots_are held stage place li to may =
      let mine : List (ℕ × T) = (slot_at k (slot_number p.slot), p.item.value) ∷ cs in
      let cell_cs : List (ℕ × T) = (slot_number p.slot, p.item.value) ∷ [] in
      let told : ℕ → Me T (View W) → Type 0 =
      StepTells Spent slot_at k v [] cs (λ t _. When (cell_stores (step 4 i new 0 none) (of_cell Spent k v.parts, cell_cs)) t new) in
      let more : (m : ℕ) (u : Me T (View W)) → told m u → stores (step slots (word_at k i) new 0 none) (Has (v ∷ []), mine) new u =
      (λ m u h k' i' v' q ds li' w e is' held'.
      let P : ℕ × Process W → Type 0 =
      λ z. of_cell Spent z.0 z.1.parts ≡ Writer q → mine ≡ (slot_at z.0 (slot_number q.slot), q.item.value) ∷ ds →
      (t : ℕ) × (q.times.clock < t) × After z.1 z.0 (Writer (stored_by q t)) t ds u in
      subst P (λ j. (same_cell k k' i i' li li' w j, has_one v v' e j)) (λ known is_mine.
      let both : p ≡ q = writes_one p q (sym is ∙ known) in
      let d = h.4.0 q known (ap (λ (z : WriterNotes T). (slot_number z.slot, z.item.value) ∷ []) both) in
      let now : d.0 ≡ h.0 = sym (ap clock_of d.2) ∙ h.4.1 in (
        h.0,
        subst (λ z. q.times.clock < z) now d.1,
        after v k h.0 h.1 (Writer (stored_by q h.0)) [] h.2 cs ds u h.3 (d.2 ∙ ap (λ z. Writer (stored_by q z)) now)
            (ap (λ zs. shift (slot_at k) zs ++ cs) d.3 ∙ ap rest_of is_mine) h.5 h.6,
      )) is' held') in
      let here : Allows F slots id (Has (v ∷ []), mine) (word_at k i) (λ _. new)
      (λ _. stores (step slots (word_at k i) new 0 none) (Has (v ∷ []), mine) new) =
      allows_more F slots id (Has (v ∷ []), mine) (word_at k i) (λ _. new) told
      (λ _. stores (step slots (word_at k i) new 0 none) (Has (v ∷ []), mine) new)
      more (family_stores fits rises o Plan n slots id k i new v cs p lk has is (held ∙ ap held_slots slots_are) stage place to may) in
      subst (λ (z : ℕ × Me T (View W)). Allows F slots id z.1 z.0 (λ _. new) (λ _. stores (step slots z.0 new 0 none) z.1 new))
      (λ j. (sym at j, (sym who j, sym slots_are j))) here where
        rest_of : List (ℕ × T) → List (ℕ × T)
        rest_of [] = []
        rest_of (x ∷ xs) = xs

  pub finishes_ok : (count : ℕ) → count ≤ 1 → (slots id word k new : ℕ) (me : Me T (View W)) (v : Process W) (p : WriterNotes T) →
      word ≡ word_at k 0 → k < (four_slots n).cells → k < length v.parts → me.0 ≡ Has (v ∷ []) → of_cell Spent k v.parts ≡ Writer p →
      v.held ≡ held_slots me.1 → p.stage ≡ writer.W4 → new ≡ bit_number p.slot.pair → MayFinish Plan k v p →
      Allows F slots id me word (λ _. new) (λ _. finishes_counting count (step slots word new 0 none) me new)
  finishes_ok count few slots id word k new me v p at lk has who is held stage to may =
      let cs : List (ℕ × T) = me.1 in
      let told : ℕ → Me T (View W) → Type 0 =
      StepTells Spent slot_at k v [] cs (λ t _. When (cell_finishes count (step 4 0 new 0 none) (of_cell Spent k v.parts, [])) t new) in
      let more : (m : ℕ) (u : Me T (View W)) → told m u →
      finishes_counting count (step slots (word_at k 0) new 0 none) (Has (v ∷ []), cs) new u =
      (λ m u h k' v' q w e is'.
      let P : ℕ × Process W → Type 0 = λ z. of_cell Spent z.0 z.1.parts ≡ Writer q →
      (t : ℕ) × (q.times.clock < t) × After z.1 z.0 (Writer (finished_with q count t)) t cs u in
      subst P (λ j. (same_cell k k' 0 0 (omega arith) (omega arith) w j, has_one v v' e j)) (λ known.
      let d = h.4.0 q known in
      let now : d.0 ≡ h.0 = sym (ap clock_of d.2) ∙ h.4.1 in (
        h.0,
        subst (λ z. q.times.clock < z) now d.1,
        after v k h.0 h.1 (Writer (finished_with q count h.0)) [] h.2 cs cs u h.3 (d.2 ∙ ap (λ z. Writer (finished_with q count z)) now)
            (ap (λ zs. shift (slot_at k) zs ++ cs) d.3) h.5 h.6,
      )) is') in
      let here : Allows F slots id (Has (v ∷ []), cs) (word_at k 0) (λ _. new)
      (λ _. finishes_counting count (step slots (word_at k 0) new 0 none) (Has (v ∷ []), cs) new) =
      allows_more F slots id (Has (v ∷ []), cs) (word_at k 0) (λ _. new) told
      (λ _. finishes_counting count (step slots (word_at k 0) new 0 none) (Has (v ∷ []), cs) new)
      more (family_finishes fits rises o Plan n count few slots id k new v cs p lk has is held stage to may) in
      subst (λ (z : ℕ × View W). Allows F slots id (z.1, cs) z.0 (λ _. new)
      (λ _. finishes_counting count (step slots z.0 new 0 none) (z.1, cs) new))
      (λ i. (sym at i, sym who i)) here

  pub asks_ok : (slots id word k : ℕ) (me : Me T (View W)) (v : Process W) (g : ReaderNotes T) →
      word ≡ word_at k 0 → k < (four_slots n).cells → k < length v.parts → me.0 ≡ Has (v ∷ []) → of_cell Spent k v.parts ≡ Reader g →
      v.held ≡ held_slots me.1 → g.stage ≡ reader.R5 → MayAsk Plan k v g →
      Allows F slots id me word (λ m. m) (asks (step slots word 0 0 none) me)
  asks_ok slots id word k me v g at lk has who is held stage may =
      let cs : List (ℕ × T) = me.1 in
      let told : ℕ → Me T (View W) → Type 0 =
      StepTells Spent slot_at k v [] cs (When (cell_asks (step 4 0 0 0 none) (of_cell Spent k v.parts, []))) in
      let here : Allows F slots id (Has (v ∷ []), cs) (word_at k 0) (λ m. m) (asks (step slots (word_at k 0) 0 0 none) (Has (v ∷ []), cs)) =
      allows_more F slots id (Has (v ∷ []), cs) (word_at k 0) (λ m. m) told (asks (step slots (word_at k 0) 0 0 none) (Has (v ∷ []), cs))
      (λ m u h k' v' q w e is'.
      let P : ℕ × Process W → Type 0 = λ z. of_cell Spent z.0 z.1.parts ≡ Reader q →
      (b : Bool) × (t : ℕ) × (m ≡ bit_number b) × (q.times.clock < t) × After z.1 z.0 (Reader (asked_by q b t)) t cs u in
      subst P (λ j. (same_cell k k' 0 0 (omega arith) (omega arith) w j, has_one v v' e j)) (λ known.
      let d = h.4.0 q known in
      let now : d.2 ≡ h.0 = sym (ap clock_of d.4) ∙ h.4.1 in (
        d.0,
        h.0,
        d.1,
        subst (λ z. q.times.clock < z) now d.3,
        after v k h.0 h.1 (Reader (asked_by q d.0 h.0)) [] h.2 cs cs u h.3 (d.4 ∙ ap (λ z. Reader (asked_by q d.0 z)) now)
            (ap (λ zs. shift (slot_at k) zs ++ cs) d.5) h.5 h.6,
      )) is')
      (family_asks fits rises o Plan n slots id k v cs g lk has is held stage may) in
      subst (λ (z : ℕ × View W). Allows F slots id (z.1, cs) z.0 (λ m. m) (asks (step slots z.0 0 0 none) (z.1, cs)))
      (λ i. (sym at i, sym who i)) here

  pub says_ok : (count : ℕ) → count ≤ 1 →
      (slots id word k new : ℕ) (me : Me T (View W)) (v : Process W) (g : ReaderNotes T) (before behind : List (ℕ × T)) →
      word ≡ word_at k 1 → k < (four_slots n).cells → k < length v.parts → me.0 ≡ Has (v ∷ []) → of_cell Spent k v.parts ≡ Reader g →
      me.1 ≡ before ++ (shift (slot_at k) (slot_of_choice g.chosen g.at_hand.value) ++ behind) → v.held ≡ held_slots me.1 →
      g.stage ≡ reader.R1 → new ≡ bit_number g.slot.pair → MaySayPair Plan k v g →
      Allows F slots id me word (λ _. new) (λ _. says_counting count (step slots word new 0 none) me new)
  says_ok count few slots id word k new me v g before behind at lk has who is slots_are held stage to may =
      let cell_cs : List (ℕ × T) = slot_of_choice g.chosen g.at_hand.value in
      let mine : List (ℕ × T) = before ++ (shift (slot_at k) cell_cs ++ behind) in
      let told : ℕ → Me T (View W) → Type 0 =
      StepTells Spent slot_at k v before behind
      (λ t _. When (cell_says count (step 4 1 new 0 none) (of_cell Spent k v.parts, cell_cs)) t new) in
      let more : (m : ℕ) (u : Me T (View W)) → told m u →
      says_counting count (step slots (word_at k 1) new 0 none) (Has (v ∷ []), mine) new u =
      (λ m u h k' v' q w e is'.
      let P : ℕ × Process W → Type 0 = λ z. of_cell Spent z.0 z.1.parts ≡ Reader q → (xs : List (ℕ × T)) × (ys : List (ℕ × T)) × (t : ℕ)
      × (mine ≡ xs ++ (shift (slot_at z.0) (slot_of_choice q.chosen q.at_hand.value) ++ ys)) × (q.times.clock < t)
      × After z.1 z.0 (Reader (said_with q count t)) t (xs ++ ys) u in
      subst P (λ j. (same_cell k k' 1 1 (omega arith) (omega arith) w j, has_one v v' e j)) (λ known.
      let both : g ≡ q = reads_one g q (sym is ∙ known) in
      let d = h.4.0 q known (ap (λ (z : ReaderNotes T). slot_of_choice z.chosen z.at_hand.value) both) in
      let now : d.0 ≡ h.0 = sym (ap clock_of d.2) ∙ h.4.1 in (
        before,
        behind,
        h.0,
        ap (λ (z : ReaderNotes T). before ++ (shift (slot_at k) (slot_of_choice z.chosen z.at_hand.value) ++ behind)) both,
        subst (λ z. q.times.clock < z) now d.1,
        after v k h.0 h.1 (Reader (said_with q count h.0)) before h.2 behind (before ++ behind) u h.3
            (d.2 ∙ ap (λ z. Reader (said_with q count z)) now)
            (ap (λ zs. before ++ (shift (slot_at k) zs ++ behind)) d.3) h.5 h.6,
      )) is') in
      let here : Allows F slots id (Has (v ∷ []), mine) (word_at k 1) (λ _. new)
      (λ _. says_counting count (step slots (word_at k 1) new 0 none) (Has (v ∷ []), mine) new) =
      allows_more F slots id (Has (v ∷ []), mine) (word_at k 1) (λ _. new) told
      (λ _. says_counting count (step slots (word_at k 1) new 0 none) (Has (v ∷ []), mine) new)
      more (family_says fits rises o Plan n count few slots id k new v before behind g lk has is (held ∙ ap held_slots slots_are)
      stage to may) in
      subst (λ (z : ℕ × Me T (View W)). Allows F slots id z.1 z.0 (λ _. new) (λ _. says_counting count (step slots z.0 new 0 none) z.1 new))
      (λ j. (sym at j, (sym who j, sym slots_are j))) here

  pub takes_ok : ((a : T) → rises a a) → ((a b c : T) → rises a b → rises b c → rises a c) → (slots id word k i : ℕ) (me : Me T (View W))
      (v : Process W) (g : ReaderNotes T) → word ≡ word_at k i → k < (four_slots n).cells → k < length v.parts → me.0 ≡ Has (v ∷ []) →
      of_cell Spent k v.parts ≡ Reader g → v.held ≡ held_slots me.1 → g.stage ≡ reader.R2 → i ≡ 2 + bit_number g.slot.pair → i < 4 →
      MayTake Plan k v g →
      Allows F slots id me word (λ m. m) (takes fits rises (step slots word 0 0 none) me)
  takes_ok same along slots id word k i me v g at lk has who is held stage place li may =
      let cs : List (ℕ × T) = me.1 in
      let told : ℕ → Me T (View W) → Type 0 =
      StepTells Spent slot_at k v [] cs (When (cell_takes fits rises (step 4 i 0 0 none) (of_cell Spent k v.parts, []))) in
      let here : Allows F slots id (Has (v ∷ []), cs) (word_at k i) (λ m. m)
      (takes fits rises (step slots (word_at k i) 0 0 none) (Has (v ∷ []), cs)) =
      allows_more F slots id (Has (v ∷ []), cs) (word_at k i) (λ m. m) told
      (takes fits rises (step slots (word_at k i) 0 0 none) (Has (v ∷ []), cs))
      (λ m u h k' i' v' q li' w e is'.
      let P : ℕ × Process W → Type 0 = λ z. of_cell Spent z.0 z.1.parts ≡ Reader q → (b : Bool) × (x : T) × (t : ℕ) × (number : ℕ)
      × (writes : Known T) × (m ≡ bit_number b) × (q.times.clock < t)
      × After z.1 z.0 (Reader (got_by q b x t number writes)) t ((slot_at z.0 (slot_number (slot_with q.slot.pair b)), x) ∷ cs) u
      × IsAnswer fits rises q.opening.value q.answers q.told x × HasAnswered q (got_by q b x t number writes) x
      × AreHeeded q.heard writes number in
      subst P (λ j. (same_cell k k' i i' li li' w j, has_one v v' e j)) (λ known.
      let d = h.4.0 q known in
      let now : d.3 ≡ h.0 = sym (ap clock_of d.7) ∙ h.4.1 in (
        d.0,
        d.1,
        h.0,
        d.4,
        d.5,
        d.2,
        subst (λ z. q.times.clock < z) now d.6,
        after v k h.0 h.1 (Reader (got_by q d.0 d.1 h.0 d.4 d.5)) [] h.2 cs
            ((slot_at k (slot_number (slot_with q.slot.pair d.0)), d.1) ∷ cs) u h.3
            (d.7 ∙ ap (λ z. Reader (got_by q d.0 d.1 z d.4 d.5)) now) (ap (λ zs. shift (slot_at k) zs ++ cs) d.8) h.5 h.6,
        d.9,
        subst (λ z. HasAnswered q (got_by q d.0 d.1 z d.4 d.5) d.1) now d.10,
        d.11,
      )) is')
      (family_takes fits rises o Plan n same along slots id k i v cs g lk has is held stage place may) in
      subst (λ (z : ℕ × View W). Allows F slots id (z.1, cs) z.0 (λ m. m) (takes fits rises (step slots z.0 0 0 none) (z.1, cs)))
      (λ j. (sym at j, sym who j)) here
