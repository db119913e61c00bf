-- The steps of the running four-slot cell: what each tells its seat (this project's own).
use Rattle.std.specs.Prelude.{◌≡◌, ◌≢◌, ℕ, ◌+◌, ◌<◌, ◌≤◌, max, Bool, false, not, Option}
use Rattle.std.specs.Prelude.{None, Some, List, [], ◌∷◌, ◌++◌}
use Rattle.atomic_table.specs.Table.{Me, Step}
use Rattle.four_slot_core.specs.declared.state.Sides.{Sides}
use Rattle.four_slot_core.specs.declared.state.Slot.{Slot}
use Rattle.four_slot_core.specs.declared.state.Stage.TheVariants as writer
use Rattle.four_slot_core.specs.declared.state.ReaderStage.TheVariants as reader
use Rattle.four_slot_core.specs.declared.event.WriteEvent.TheVariants.{W1, W2, W3, W4, W5}
use Rattle.four_slot_core.specs.declared.event.ReadEvent.TheVariants.{R1, R2, R3, R4, R5}
use Rattle.four_slot_core.specs.Events.{side, with_side, slot_with, bit_number, slot_number, both}
use Rattle.cell_contract.specs.Running.{IsAnswer, Rising, snap}
use Rattle.cell_contract.specs.Intervals.{begun_at, passed_at, ended_at, heard_at, no_times, none_known}
use Rattle.cell_contract.specs.Intervals.{dated_at, known_as, AreHeeded}
use Rattle.cell_contract.specs.Intervals.{IsNextAnswer}
use Rattle.cell_contract.specs.declared.times.Dated.{Dated}
use Rattle.cell_contract.specs.declared.times.Known.{Known}
use Rattle.cell_four_slot.specs.declared.notes.WriterNotes.{WriterNotes}
use Rattle.cell_four_slot.specs.declared.notes.ReaderNotes.{ReaderNotes}
use Rattle.cell_contract.specs.declared.sight.Sight.{Sight}
use Rattle.cell_contract.specs.declared.sight.Sight.TheVariants.{Spent, Told, Writer, Reader, Both}

abbrev pub FourSlotSight : Type 0 → Type 0
FourSlotSight T = Sight (Dated T) (WriterNotes T) (ReaderNotes T)

abbrev Sat : Type 0 → Type 0
Sat T = Me T (FourSlotSight T)

-- the words of the pairs' bits
abbrev pub bit_words : Sides Bool → List ℕ
bit_words s = bit_number s.zero ∷ bit_number s.one ∷ []

-- what `reading` has: 2 before the first read, and from then on the pair of the slot that the last R3 chose
abbrev pub word_said : Option Slot → ℕ
word_said None = 2
word_said (Some k) = bit_number k.pair

module _ {T : Type 0} where
  -- W1, with W2 and W3, where `reading` is b: the other pair, and there the index that the remembered bit doesn't name
  abbrev pub begun_with : WriterNotes T → Bool → T → ℕ → WriterNotes T
  begun_with p b x t =
      let slot = slot_with (not b) (not (side p.remembered (not b))) in
      record p {
        stage = writer.W3;
        slot = slot;
        item = snap x;
        written = p.written ++ x ∷ [];
        slots = p.slots ++ slot ∷ [];
        events = p.events ++ W1 (snap x) ∷ W2 ∷ W3 ∷ [];
        accesses = p.accesses + 1;
        times = begun_at p.times t;
      }

  -- the load of `reading`, with which the seat takes its slot
  abbrev pub begins : List T → Step T → Sat T → ℕ → Sat T → Type 0
  begins items st m n m' = (p : WriterNotes T) (x : T) → m.0 ≡ Writer p → items ≡ x ∷ []
      → (b : Bool) × (y : T) × (n ≡ bit_number b) × (t : ℕ) × (p.times.clock < t) × (m'.0 ≡ Writer (begun_with p b x t))
      × (m'.1 ≡ (slot_number (begun_with p b x t).slot, y) ∷ [])

  -- W4: the store of the index in the pair's bit, with which the seat gives its slot back. Of a plain store nothing
  -- else is found than what it stores, which no exchange of the word could say.
  abbrev pub stored_by : WriterNotes T → ℕ → WriterNotes T
  stored_by p t = record p {
    stage = writer.W4;
    remembered = with_side p.remembered p.slot.pair p.slot.index;
    events = p.events ++ W4 ∷ [];
    accesses = p.accesses + 1;
    times = passed_at p.times t;
  }

  abbrev pub stores : Step T → Sat T → ℕ → Sat T → Type 0
  stores st m n m' = (p : WriterNotes T) → m.0 ≡ Writer p → m.1 ≡ (slot_number p.slot, p.item.value) ∷ [] →
      (t : ℕ) × (p.times.clock < t) × (m'.0 ≡ Writer (stored_by p t)) × (m'.1 ≡ []) × (n ≡ st.first)

  -- W5: the store of the pair in `latest`, made by so many accesses. The record counts as finished.
  abbrev pub finished_with : WriterNotes T → ℕ → ℕ → WriterNotes T
  finished_with p n t = record p {
    stage = writer.W5;
    finished = p.item;
    latest = p.slot.pair;
    events = p.events ++ W5 ∷ [];
    accesses = p.accesses + n;
    times = ended_at p.times t;
  }

  abbrev pub finished_by : WriterNotes T → ℕ → WriterNotes T
  finished_by p t = finished_with p 1 t

  -- W4; and W5 too, at the same store, where `latest` has the pair already: its store would change nothing
  abbrev pub stores_on : Step T → Sat T → ℕ → Sat T → Type 0
  stores_on st m n m' = (p : WriterNotes T) → m.0 ≡ Writer p → m.1 ≡ (slot_number p.slot, p.item.value) ∷ [] →
      (t : ℕ) × (p.times.clock < t) × (m'.1 ≡ []) × (n ≡ st.first)
      × (bit_number p.slot.pair ≡ bit_number p.latest → m'.0 ≡ Writer (finished_with (stored_by p t) 0 t))
      × (bit_number p.slot.pair ≢ bit_number p.latest → m'.0 ≡ Writer (stored_by p t))

  -- W4 and W5: W5 by no access where `latest` has the pair already, and by one where it has the other
  abbrev pub publishes : Sat T → Sat T → Type 0
  publishes m m' = (p : WriterNotes T) → m.0 ≡ Writer p → m.1 ≡ (slot_number p.slot, p.item.value) ∷ [] →
      (t : ℕ) × (u : ℕ) × (i : ℕ) × (p.times.clock < t) × (t ≤ u)
      × (bit_number p.slot.pair ≡ bit_number p.latest → i ≡ 0) × (bit_number p.slot.pair ≢ bit_number p.latest → i ≡ 1)
      × (m'.0 ≡ Writer (finished_with (stored_by p t) i u)) × (m'.1 ≡ [])

  -- a step that makes W5, counted as so many accesses: one, and none where it is thought beside W4's store
  abbrev pub finishes_counting : ℕ → Step T → Sat T → ℕ → Sat T → Type 0
  finishes_counting i st m n m' = (p : WriterNotes T) → m.0 ≡ Writer p →
      (t : ℕ) × (p.times.clock < t) × (m'.0 ≡ Writer (finished_with p i t)) × (m'.1 ≡ m.1) × (n ≡ st.first)

  abbrev pub finishes : Step T → Sat T → ℕ → Sat T → Type 0
  finishes = finishes_counting 1

  -- R1: the load of `latest`, which is b
  abbrev pub asked_by : ReaderNotes T → Bool → ℕ → ReaderNotes T
  asked_by g b t = record g {
    stage = reader.R1;
    slot = slot_with b g.slot.index;
    events = g.events ++ R1 ∷ [];
    accesses = g.accesses + 1;
    times = begun_at g.times t;
  }

  abbrev pub asks : Step T → Sat T → ℕ → Sat T → Type 0
  asks st m n m' = (g : ReaderNotes T) → m.0 ≡ Reader g →
      (b : Bool) × (n ≡ bit_number b) × (t : ℕ) × (g.times.clock < t) × (m'.0 ≡ Reader (asked_by g b t)) × (m'.1 ≡ m.1)

  -- the slot of the read before, with its record, where there was one
  abbrev pub slot_of_choice : Option Slot → T → List (ℕ × T)
  slot_of_choice None x = []
  slot_of_choice (Some k) x = (slot_number k, x) ∷ []

  -- R2: the store of the pair in `reading`, with which the seat gives that slot back, made by so many accesses
  abbrev pub said_with : ReaderNotes T → ℕ → ℕ → ReaderNotes T
  said_with g n t = record g {
    stage = reader.R2;
    events = g.events ++ R2 ∷ [];
    accesses = g.accesses + n;
    times = passed_at g.times t;
  }

  abbrev pub said_by : ReaderNotes T → ℕ → ReaderNotes T
  said_by g t = said_with g 1 t

  -- R1; and R2 too, at the same load and counted as so many accesses, where `reading` has the pair already:
  -- the store would change nothing
  abbrev pub asks_counting : ℕ → Step T → Sat T → ℕ → Sat T → Type 0
  asks_counting i st m n m' = (g : ReaderNotes T) → m.0 ≡ Reader g → m.1 ≡ slot_of_choice g.chosen g.at_hand.value →
      (b : Bool) × (n ≡ bit_number b) × (t : ℕ) × (g.times.clock < t)
      × (n ≡ word_said g.chosen → (m'.0 ≡ Reader (said_with (asked_by g b t) i t)) × (m'.1 ≡ []))
      × (n ≢ word_said g.chosen → (m'.0 ≡ Reader (asked_by g b t)) × (m'.1 ≡ m.1))

  -- the store that is left out is none
  abbrev pub asks_on : Step T → Sat T → ℕ → Sat T → Type 0
  asks_on = asks_counting 0

  -- R1 and R2: R2 by no access where `reading` has the pair already, and by one where it has another
  abbrev pub announces : Sat T → ℕ → Sat T → Type 0
  announces m n m' = (g : ReaderNotes T) → m.0 ≡ Reader g → m.1 ≡ slot_of_choice g.chosen g.at_hand.value →
      (b : Bool) × (n ≡ bit_number b) × (t : ℕ) × (u : ℕ) × (i : ℕ) × (g.times.clock < t) × (t ≤ u)
      × (n ≡ word_said g.chosen → i ≡ 0) × (n ≢ word_said g.chosen → i ≡ 1)
      × (m'.0 ≡ Reader (said_with (asked_by g b t) i u)) × (m'.1 ≡ [])

  -- a step that makes R2, counted likewise
  abbrev pub says_counting : ℕ → Step T → Sat T → ℕ → Sat T → Type 0
  says_counting i st m n m' = (g : ReaderNotes T) → m.0 ≡ Reader g → m.1 ≡ slot_of_choice g.chosen g.at_hand.value →
      (t : ℕ) × (g.times.clock < t) × (m'.0 ≡ Reader (said_with g i t)) × (m'.1 ≡ []) × (n ≡ st.first)

  abbrev pub says : Step T → Sat T → ℕ → Sat T → Type 0
  says = says_counting 1

  -- R3, with R4 and R5, where the pair's bit is b: the slot of the pair and b, which has x
  abbrev pub got_by : ReaderNotes T → Bool → T → ℕ → ℕ → Known T → ReaderNotes T
  got_by g b x t k writes =
      let slot = slot_with g.slot.pair b in
      record g {
        stage = reader.R5;
        slot = slot;
        chosen = Some slot;
        at_hand = snap x;
        answers = g.answers ++ x ∷ [];
        events = g.events ++ R3 ∷ R4 ∷ R5 (snap x) ∷ [];
        accesses = g.accesses + 1;
        times = ended_at g.times t;
        numbers = g.numbers ++ k ∷ [];
        known = writes;
      }

  -- what the reader's notes say of the answer with which they go on
  abbrev pub HasAnswered : ReaderNotes T → ReaderNotes T → T → Type 0
  HasAnswered g h x = IsNextAnswer g.opening.value g.known h.known g.numbers h.numbers h.answers h.times x

  -- the load of the pair's bit, with which the seat takes the slot. What it has is the answer, which heeds each receipt
  -- that was learnt. The writes shown are all that the writer has begun, and they obey the law
  abbrev pub takes : (T → Type 0) → (T → T → Type 0) → Step T → Sat T → ℕ → Sat T → Type 0
  takes fits rises st m n m' = (g : ReaderNotes T) → m.0 ≡ Reader g
      → (b : Bool) × (x : T) × (n ≡ bit_number b) × (t : ℕ) × (k : ℕ) × (writes : Known T) × (g.times.clock < t)
      × (m'.0 ≡ Reader (got_by g b x t k writes)) × (m'.1 ≡ (slot_number (slot_with g.slot.pair b), x) ∷ [])
      × IsAnswer fits rises g.opening.value g.answers g.told x × HasAnswered g (got_by g b x t k writes) x
      × AreHeeded g.heard writes k × Rising fits rises g.opening.value writes.items

  -- the views at the start, those that are parted off and those that are taken in
  abbrev pub first_writer : T → WriterNotes T
  first_writer o = record {
    stage = writer.W5;
    slot = slot_with false false;
    item = snap o;
    remembered = both false;
    latest = false;
    finished = snap o;
    opening = snap o;
    written = [];
    slots = [];
    events = [];
    accesses = 0;
    times = no_times;
  }

  abbrev pub first_reader : T → ReaderNotes T
  first_reader o = record {
    stage = reader.R5;
    slot = slot_with false false;
    chosen = None;
    at_hand = snap o;
    opening = snap o;
    answers = [];
    told = [];
    events = [];
    accesses = 0;
    times = no_times;
    numbers = [];
    known = none_known;
    heard = [];
  }

  abbrev pub first_sight : T → FourSlotSight T
  first_sight o = Both (first_writer o) (first_reader o)

  -- what is parted off for a receipt, and what is taken in
  abbrev pub told_by : WriterNotes T → Dated T
  told_by p = dated_at p.finished.value (known_as p.written p.times)

  abbrev pub receipt_for : FourSlotSight T → FourSlotSight T
  receipt_for (Writer p) = Told (snap (told_by p))
  receipt_for v = Spent

  abbrev pub heard_by : ReaderNotes T → Dated T → ReaderNotes T
  heard_by g x =
      record g { told = g.told ++ x.item ∷ []; times = heard_at g.times x.time; heard = g.heard ++ x.writes ∷ [] }

  abbrev pub hears_of : FourSlotSight T → FourSlotSight T → FourSlotSight T
  hears_of (Reader g) (Told x) = Reader (heard_by g x.value)
  hears_of v w = v

  abbrev pub whole_of : FourSlotSight T → FourSlotSight T → FourSlotSight T
  whole_of (Writer p) (Reader g) = Both p g
  whole_of v w = v

  -- the last time of which a view knows
  abbrev pub clock_of : FourSlotSight T → ℕ
  clock_of Spent = 0
  clock_of (Told x) = x.value.time
  clock_of (Writer p) = p.times.clock
  clock_of (Reader g) = g.times.clock
  clock_of (Both p g) = max p.times.clock g.times.clock
