-- What each step tells a process of a family of triple buffers: what the step of one cell tells, and the one time of
-- the step that makes a write or decides a read. The cell is the one whose word the step is on (this project's own).
use Rattle.std.specs.Prelude.{◌≡◌, ℕ, ◌%◌, ◌<◌, ◌≤◌, List, [], ◌∷◌, slice_set}
use Rattle.atomic_table.specs.Table.{Me, Step}
use Rattle.cell_contract.specs.Intervals.{AreHeeded}
use Rattle.cell_contract.specs.Running.{held_slots}
use Rattle.cell_contract.specs.declared.times.Known.{Known}
use Rattle.cell_triple.specs.declared.notes.WriterNotes.{WriterNotes}
use Rattle.cell_triple.specs.declared.notes.ReaderNotes.{ReaderNotes}
use Rattle.cell_contract.specs.declared.sight.Sight.TheVariants.{Spent, Writer, Reader}
use Rattle.cell_triple.specs.Steps.{TripleSight, published, looked_by, asked_by, fetched}
use Rattle.cell_triple.specs.Steps.{answered, MayAnswer, HasAnswered}
use Rattle.family_table.specs.declared.notes.Process.{Process}
use Rattle.family_table.specs.declared.notes.View.{View}
use Rattle.family_table.specs.declared.notes.View.TheVariants.{Has}
use Rattle.family_table.specs.Family.{of_cell, knows}
use Rattle.family_triple.specs.Places.{word_at, slot_at}

-- What a process knows after a step on cell k: with a clock and times to which it goes on; and after a
-- step that isn't in the schedule
abbrev pub goes_on : {V : Type 0} → Process V → ℕ → V → ℕ → List ℕ → List ℕ → Process V
goes_on v k w clock times held =
    record v { clock = clock; times = times; held = held; parts = slice_set v.parts k w }

abbrev pub alters : {V : Type 0} → Process V → ℕ → V → List ℕ → Process V
alters v k w held = goes_on v k w v.clock v.times held

abbrev Sat : Type 0 → Type 0
Sat T = Me T (View (TripleSight T))

module _ {T : Type 0} where
  -- after a step of the schedule on cell k the seat has these notes of the cell, and these slots; and after another one
  abbrev pub After : Process (TripleSight T) → ℕ → TripleSight T → ℕ → List (ℕ × T) → Sat T → Type 0
  After v k w t cs m = (v.clock < t) × (m.0 ≡ Has (knows Spent v k w t (held_slots cs) ∷ [])) × (m.1 ≡ cs)

  abbrev pub Beside : Process (TripleSight T) → ℕ → TripleSight T → List (ℕ × T) → Sat T → Type 0
  Beside v k w cs m = (m.0 ≡ Has (alters v k w (held_slots cs) ∷ [])) × (m.1 ≡ cs)

  -- the first slots are taken, before any call
  abbrev pub put_takes : Step T → Sat T → ℕ → Sat T → Type 0
  put_takes st m n m' = (k : ℕ) (v : Process (TripleSight T)) (p : WriterNotes T) → st.word ≡ word_at k 0 →
      m.0 ≡ Has (v ∷ []) → of_cell Spent k v.parts ≡ Writer p →
      Beside v k (Writer (record p { has = 1 })) ((slot_at k p.slot, p.opening.value) ∷ m.1) m'

  abbrev pub get_takes : Step T → Sat T → ℕ → Sat T → Type 0
  get_takes st m n m' = (k : ℕ) (v : Process (TripleSight T)) (g : ReaderNotes T) → st.word ≡ word_at k 0 →
      m.0 ≡ Has (v ∷ []) → of_cell Spent k v.parts ≡ Reader g →
      Beside v k (Reader (record g { has = 1 })) ((slot_at k g.slot, g.at_hand.value) ∷ m.1) m'

  -- the writer's swap: the whole write
  abbrev pub publishes : Step T → Sat T → ℕ → Sat T → Type 0
  publishes st m n m' = (k : ℕ) (v : Process (TripleSight T)) (p : WriterNotes T) (x : T) (cs : List (ℕ × T)) →
      st.word ≡ word_at k 0 → m.0 ≡ Has (v ∷ []) → of_cell Spent k v.parts ≡ Writer p → m.1 ≡ (slot_at k p.slot, x) ∷ cs
      → (y : T) × (t : ℕ) × (n % 4 < 3) × (p.times.clock < t)
      × After v k (Writer (published p (n % 4) x t)) t ((slot_at k (n % 4), y) ∷ cs) m'

  module _ (fits : T → Type 0) (rises : T → T → Type 0) where
    -- the reader's load: where it finds no mark it decides the read, and else it isn't in the schedule
    abbrev pub looks : Step T → Sat T → ℕ → Sat T → Type 0
    looks st m n m' = (k : ℕ) (v : Process (TripleSight T)) (g : ReaderNotes T) → st.word ≡ word_at k 0 →
        m.0 ≡ Has (v ∷ []) → of_cell Spent k v.parts ≡ Reader g
        → (4 ≤ n → Beside v k (Reader (asked_by g n)) m.1 m')
        × (n < 4 → (t : ℕ) × (number : ℕ) × (writes : Known T) × (g.times.clock < t)
        × After v k (Reader (answered (looked_by g n) g.at_hand.value t number writes)) t m.1 m'
        × MayAnswer fits rises g g.at_hand.value
        × HasAnswered g (answered (looked_by g n) g.at_hand.value t number writes) g.at_hand.value
        × AreHeeded g.heard writes number)

    -- the reader's swap, where its load found the mark: it decides the read
    abbrev pub fetches : Step T → Sat T → ℕ → Sat T → Type 0
    fetches st m n m' = (k : ℕ) (v : Process (TripleSight T)) (g : ReaderNotes T) (x : T) (cs : List (ℕ × T)) →
        st.word ≡ word_at k 0 → m.0 ≡ Has (v ∷ []) → of_cell Spent k v.parts ≡ Reader g →
        m.1 ≡ (slot_at k g.slot, x) ∷ cs → g.asked ≡ 1 →
        (y : T) × (t : ℕ) × (number : ℕ) × (writes : Known T) × (n % 4 < 3) × (g.times.clock < t)
        × After v k (Reader (answered (fetched g (n % 4) y) y t number writes)) t ((slot_at k (n % 4), y) ∷ cs) m'
        × MayAnswer fits rises g y × HasAnswered g (answered (fetched g (n % 4) y) y t number writes) y
        × AreHeeded g.heard writes number
