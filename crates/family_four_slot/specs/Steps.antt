-- What each step tells a process of a family of four-slot cells: what the step of one cell tells, and the one time of
-- it. The cell is the one whose word the step is on. A step here is one of the mechanism's: where an access makes two
-- of them they have two times, as the second one's store is left out and would come next (this project's own).
use Rattle.std.specs.Prelude.{◌≡◌, ◌≢◌, ℕ, ◌<◌, Bool, Some, List, [], ◌∷◌, ◌++◌}
use Rattle.atomic_table.specs.Table.{Me, Step}
use Rattle.four_slot_core.specs.Events.{slot_with, bit_number, slot_number}
use Rattle.cell_contract.specs.Intervals.{AreHeeded}
use Rattle.cell_contract.specs.Running.{IsAnswer, held_slots}
use Rattle.cell_contract.specs.declared.times.Known.{Known}
use Rattle.cell_four_slot.specs.declared.notes.WriterNotes.{WriterNotes}
use Rattle.cell_four_slot.specs.declared.notes.ReaderNotes.{ReaderNotes}
use Rattle.cell_contract.specs.declared.sight.Sight.TheVariants.{Spent, Writer, Reader}
use Rattle.cell_four_slot.specs.Steps.{FourSlotSight, begun_with, stored_by, finished_with, asked_by}
use Rattle.cell_four_slot.specs.Steps.{said_with, got_by, slot_of_choice}
use Rattle.cell_four_slot.specs.Steps.{HasAnswered}
use Rattle.family_table.specs.declared.notes.Process.{Process}
use Rattle.family_table.specs.declared.notes.View.{View}
use Rattle.family_table.specs.declared.notes.View.TheVariants.{Has}
use Rattle.family_table.specs.Layouts.{shift}
use Rattle.family_four_slot.specs.Places.{word_at, slot_at}
use Rattle.family_table.specs.Family.{of_cell, knows}

abbrev Sat : Type 0 → Type 0
Sat T = Me T (View (FourSlotSight T))

module _ {T : Type 0} where
  -- after a step on cell k at a time the seat has these notes of the cell, and these slots
  abbrev pub After : Process (FourSlotSight T) → ℕ → FourSlotSight T → ℕ → List (ℕ × T) → Sat T → Type 0
  After v k w t cs m = (v.clock < t) × (m.0 ≡ Has (knows Spent v k w t (held_slots cs) ∷ [])) × (m.1 ≡ cs)

  -- W1, with W2 and W3
  abbrev pub begins : List T → Step T → Sat T → ℕ → Sat T → Type 0
  begins items st m n m' = (k : ℕ) (v : Process (FourSlotSight T)) (p : WriterNotes T) (x : T) →
      st.word ≡ word_at k 1 → m.0 ≡ Has (v ∷ []) →
      of_cell Spent k v.parts ≡ Writer p → items ≡ x ∷ []
      → (b : Bool) × (y : T) × (t : ℕ) × (n ≡ bit_number b) × (p.times.clock < t)
      × After v k (Writer (begun_with p b x t)) t ((slot_at k (slot_number (begun_with p b x t).slot), y) ∷ m.1) m'

  -- W4
  abbrev pub stores : Step T → Sat T → ℕ → Sat T → Type 0
  stores st m n m' = (k i : ℕ) (v : Process (FourSlotSight T)) (p : WriterNotes T) (cs : List (ℕ × T)) → i < 4 →
      st.word ≡ word_at k i → m.0 ≡ Has (v ∷ []) → of_cell Spent k v.parts ≡ Writer p →
      m.1 ≡ (slot_at k (slot_number p.slot), p.item.value) ∷ cs →
      (t : ℕ) × (p.times.clock < t) × After v k (Writer (stored_by p t)) t cs m'

  -- W5, counted as so many accesses
  abbrev pub finishes_counting : ℕ → Step T → Sat T → ℕ → Sat T → Type 0
  finishes_counting count st m n m' = (k : ℕ) (v : Process (FourSlotSight T)) (p : WriterNotes T) →
      st.word ≡ word_at k 0 → m.0 ≡ Has (v ∷ []) → of_cell Spent k v.parts ≡ Writer p
      → (t : ℕ) × (p.times.clock < t) × After v k (Writer (finished_with p count t)) t m.1 m'

  abbrev pub finishes : Step T → Sat T → ℕ → Sat T → Type 0
  finishes = finishes_counting 1

  -- what a process knows after W4 and before W5
  abbrev pub has_stored : Process (FourSlotSight T) → ℕ → WriterNotes T → ℕ → List (ℕ × T) → Process (FourSlotSight T)
  has_stored v k p t cs = knows Spent v k (Writer (stored_by p t)) t (held_slots cs)

  -- W4; and W5 too, by no access and at the next time, where `latest` has the pair already:
  -- its store would change nothing
  abbrev pub stores_on : Step T → Sat T → ℕ → Sat T → Type 0
  stores_on st m n m' = (k i : ℕ) (v : Process (FourSlotSight T)) (p : WriterNotes T) (cs : List (ℕ × T)) → i < 4 →
      st.word ≡ word_at k i → m.0 ≡ Has (v ∷ []) → of_cell Spent k v.parts ≡ Writer p →
      m.1 ≡ (slot_at k (slot_number p.slot), p.item.value) ∷ cs → (t : ℕ) × (v.clock < t)
      × (bit_number p.slot.pair ≢ bit_number p.latest → After v k (Writer (stored_by p t)) t cs m')
      × (bit_number p.slot.pair ≡ bit_number p.latest →
      (u : ℕ) × After (has_stored v k p t cs) k (Writer (finished_with (stored_by p t) 0 u)) u cs m')

  -- W4 and W5, which take two times; W5 by no access where `latest` has the pair already, and
  -- by one where it has the other
  abbrev pub publishes : ℕ → Sat T → Sat T → Type 0
  publishes k m m' = (v : Process (FourSlotSight T)) (p : WriterNotes T) (cs : List (ℕ × T)) → m.0 ≡ Has (v ∷ []) →
      of_cell Spent k v.parts ≡ Writer p → m.1 ≡ (slot_at k (slot_number p.slot), p.item.value) ∷ cs
      → (t : ℕ) × (u : ℕ) × (i : ℕ) × (bit_number p.slot.pair ≡ bit_number p.latest → i ≡ 0)
      × (bit_number p.slot.pair ≢ bit_number p.latest → i ≡ 1) × (v.clock < t)
      × After (has_stored v k p t cs) k (Writer (finished_with (stored_by p t) i u)) u cs m'

  -- R1
  abbrev pub asks : Step T → Sat T → ℕ → Sat T → Type 0
  asks st m n m' = (k : ℕ) (v : Process (FourSlotSight T)) (g : ReaderNotes T) → st.word ≡ word_at k 0 →
      m.0 ≡ Has (v ∷ []) → of_cell Spent k v.parts ≡ Reader g
      → (b : Bool) × (t : ℕ) × (n ≡ bit_number b) × (g.times.clock < t) × After v k (Reader (asked_by g b t)) t m.1 m'

  -- R2, counted as so many accesses, with which the slot of the read before is given back,
  -- wherever it lies among the seat's
  abbrev pub says_counting : ℕ → Step T → Sat T → ℕ → Sat T → Type 0
  says_counting count st m n m' = (k : ℕ) (v : Process (FourSlotSight T)) (g : ReaderNotes T) → st.word ≡ word_at k 1 →
      m.0 ≡ Has (v ∷ []) → of_cell Spent k v.parts ≡ Reader g
      → (before : List (ℕ × T)) × (behind : List (ℕ × T)) × (t : ℕ)
      × (m.1 ≡ before ++ (shift (slot_at k) (slot_of_choice g.chosen g.at_hand.value) ++ behind)) × (g.times.clock < t)
      × After v k (Reader (said_with g count t)) t (before ++ behind) m'

  abbrev pub says : Step T → Sat T → ℕ → Sat T → Type 0
  says = says_counting 1

  -- what a process knows after R1 and before R2
  abbrev pub has_asked : Process (FourSlotSight T) → ℕ → ReaderNotes T → Bool → ℕ → List (ℕ × T) →
      Process (FourSlotSight T)
  has_asked v k g b t cs = knows Spent v k (Reader (asked_by g b t)) t (held_slots cs)

  -- what a process knows after R2 and before R3
  abbrev pub has_said : Process (FourSlotSight T) → ℕ → ReaderNotes T → ℕ → ℕ → List (ℕ × T) →
      Process (FourSlotSight T)
  has_said v k g count t cs = knows Spent v k (Reader (said_with g count t)) t (held_slots cs)

  -- R3, with R4 and R5
  abbrev pub takes : (T → Type 0) → (T → T → Type 0) → Step T → Sat T → ℕ → Sat T → Type 0
  takes fits rises st m n m' = (k i : ℕ) (v : Process (FourSlotSight T)) (g : ReaderNotes T) → i < 4 →
      st.word ≡ word_at k i → m.0 ≡ Has (v ∷ []) → of_cell Spent k v.parts ≡ Reader g
      → (b : Bool) × (x : T) × (t : ℕ) × (number : ℕ) × (writes : Known T) × (n ≡ bit_number b) × (g.times.clock < t)
      × After v k (Reader (got_by g b x t number writes)) t
      ((slot_at k (slot_number (slot_with g.slot.pair b)), x) ∷ m.1) m'
      × IsAnswer fits rises g.opening.value g.answers g.told x × HasAnswered g (got_by g b x t number writes) x
      × AreHeeded g.heard writes number

  -- R2 and R3 at one load, where `reading` has the pair already: R2's store would change nothing, so it is made by no
  -- access. The slot of the read before is given back and one is taken at once: if it is the same one, then with the
  -- record that it had
  abbrev pub takes_on : (T → Type 0) → (T → T → Type 0) → Step T → Sat T → ℕ → Sat T → Type 0
  takes_on fits rises st m n m' = (k i : ℕ) (v : Process (FourSlotSight T)) (g : ReaderNotes T) → i < 4 →
      st.word ≡ word_at k i → m.0 ≡ Has (v ∷ []) → of_cell Spent k v.parts ≡ Reader g
      → (c : ℕ) × (before : List (ℕ × T)) × (behind : List (ℕ × T)) × (b : Bool) × (x : T) × (t : ℕ) × (number : ℕ)
      × (writes : Known T) × (m.1 ≡ before ++ (shift (slot_at k) (slot_of_choice g.chosen g.at_hand.value) ++ behind))
      × (v.clock < c) × (n ≡ bit_number b)
      × After (has_said v k g 0 c (before ++ behind)) k (Reader (got_by (said_with g 0 c) b x t number writes)) t
      ((slot_at k (slot_number (slot_with g.slot.pair b)), x) ∷ (before ++ behind)) m'
      × IsAnswer fits rises g.opening.value g.answers g.told x
      × HasAnswered (said_with g 0 c) (got_by (said_with g 0 c) b x t number writes) x × AreHeeded g.heard writes number
      × (g.chosen ≡ Some (slot_with g.slot.pair b) → x ≡ g.at_hand.value)
