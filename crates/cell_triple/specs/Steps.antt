-- The steps of the triple buffer: what each tells its seat (this project's own).
use Rattle.std.specs.Prelude.{◌≡◌, ℕ, ◌+◌, ◌%◌, ◌<◌, ◌≤◌, max, [], ◌∷◌, ◌++◌}
use Rattle.atomic_table.specs.Table.{Me, Step}
use Rattle.cell_contract.specs.Running.{last_or, IsAnswer, Rising, snap}
use Rattle.cell_contract.specs.Intervals.{made_at, heard_at, no_times, none_known, dated_at}
use Rattle.cell_contract.specs.Intervals.{known_as, AreHeeded, IsNextAnswer}
use Rattle.cell_contract.specs.declared.times.Dated.{Dated}
use Rattle.cell_contract.specs.declared.times.Known.{Known}
use Rattle.cell_triple.specs.declared.notes.WriterNotes.{WriterNotes}
use Rattle.cell_triple.specs.declared.notes.ReaderNotes.{ReaderNotes}
use Rattle.cell_contract.specs.declared.sight.Sight.{Sight}
use Rattle.cell_contract.specs.declared.sight.Sight.TheVariants.{Spent, Told, Writer, Reader, Both}

abbrev pub TripleSight : Type 0 → Type 0
TripleSight T = Sight (Dated T) (WriterNotes T) (ReaderNotes T)

abbrev Sat : Type 0 → Type 0
Sat T = Me T (TripleSight T)

module _ {T : Type 0} where
  -- the writer's seat takes slot 0, the reader's slot 2
  abbrev pub put_took : Step T → Sat T → ℕ → Sat T → Type 0
  put_took st m n m' =
      (p : WriterNotes T) → m.0 ≡ Writer p →
      (m'.0 ≡ Writer (record p { has = 1 })) × (m'.1 ≡ (p.slot, p.opening.value) ∷ [])

  abbrev pub get_took : Step T → Sat T → ℕ → Sat T → Type 0
  get_took st m n m' =
      (g : ReaderNotes T) → m.0 ≡ Reader g →
      (m'.0 ≡ Reader (record g { has = 1 })) × (m'.1 ≡ (g.slot, g.at_hand.value) ∷ [])

  -- the writer's swap puts its record in the middle and takes what was there: the whole write
  abbrev pub published : WriterNotes T → ℕ → T → ℕ → WriterNotes T
  published p slot x t =
      record p { slot = slot; written = p.written ++ x ∷ []; swaps = p.swaps + 1; times = made_at p.times t }

  abbrev pub put_swapped : Step T → Sat T → ℕ → Sat T → Type 0
  put_swapped st m n m' = (p : WriterNotes T) (x : T) → m.0 ≡ Writer p → m.1 ≡ (p.slot, x) ∷ []
      → (y : T) × (n % 4 < 3) × (t : ℕ) × (p.times.clock < t) × (m'.0 ≡ Writer (published p (n % 4) x t))
      × (m'.1 ≡ (n % 4, y) ∷ [])

  -- the notes after a load that found this word, and then with a mark
  abbrev pub looked_by : ReaderNotes T → ℕ → ReaderNotes T
  looked_by g n = record g { found = n; loads = g.loads + 1 }

  abbrev pub asked_by : ReaderNotes T → ℕ → ReaderNotes T
  asked_by g n = record (looked_by g n) { asked = 1 }

  -- the notes after the swap that took this slot with this record
  abbrev pub fetched : ReaderNotes T → ℕ → T → ReaderNotes T
  fetched g slot y = record g { slot = slot; at_hand = snap y; swaps = g.swaps + 1 }

  -- the notes after an answer, which the step at this time decides: it is the whole read
  abbrev pub answered : ReaderNotes T → T → ℕ → ℕ → Known T → ReaderNotes T
  answered g x t k writes = record g {
    answers = g.answers ++ x ∷ [];
    asked = 0;
    times = made_at g.times t;
    numbers = g.numbers ++ k ∷ [];
    known = writes;
  }

  -- what the reader's notes say of the answer with which they go on
  abbrev pub HasAnswered : ReaderNotes T → ReaderNotes T → T → Type 0
  HasAnswered g h x = IsNextAnswer g.opening.value g.known h.known g.numbers h.numbers h.answers h.times x

  module _ (fits : T → Type 0) (rises : T → T → Type 0) where
    abbrev pub MayAnswer : ReaderNotes T → T → Type 0
    MayAnswer g x = IsAnswer fits rises g.opening.value g.answers g.told x

    -- the reader's load: with no mark its own slot has the answer. The writes shown are all that the writer
    -- has made, and they obey the law
    abbrev pub looked : Step T → Sat T → ℕ → Sat T → Type 0
    looked st m n m' = (g : ReaderNotes T) → m.0 ≡ Reader g
        → (m'.1 ≡ m.1) × (4 ≤ n → m'.0 ≡ Reader (asked_by g n))
        × (n < 4 → (t : ℕ) × (k : ℕ) × (writes : Known T) × (g.times.clock < t)
        × (m'.0 ≡ Reader (answered (looked_by g n) g.at_hand.value t k writes))
        × MayAnswer g g.at_hand.value
        × HasAnswered g (answered (looked_by g n) g.at_hand.value t k writes) g.at_hand.value
        × AreHeeded g.heard writes k × Rising fits rises g.opening.value writes.items)

    -- the reader's swap takes the middle, which is the answer
    abbrev pub get_swapped : Step T → Sat T → ℕ → Sat T → Type 0
    get_swapped st m n m' = (g : ReaderNotes T) (x : T) → m.0 ≡ Reader g → m.1 ≡ (g.slot, x) ∷ [] → g.asked ≡ 1
        → (y : T) × (n % 4 < 3) × (t : ℕ) × (k : ℕ) × (writes : Known T) × (g.times.clock < t)
        × (m'.0 ≡ Reader (answered (fetched g (n % 4) y) y t k writes)) × (m'.1 ≡ (n % 4, y) ∷ []) × MayAnswer g y
        × HasAnswered g (answered (fetched g (n % 4) y) y t k writes) y × AreHeeded g.heard writes k
        × Rising fits rises g.opening.value writes.items

  -- the views at the start: the writer has slot 0 and the reader slot 2
  abbrev pub first_writer : T → WriterNotes T
  first_writer o = record { opening = snap o; slot = 0; has = 0; written = []; swaps = 0; times = no_times }

  abbrev pub first_reader : T → ReaderNotes T
  first_reader o = record {
    opening = snap o;
    slot = 2;
    has = 0;
    at_hand = snap o;
    found = 0;
    asked = 0;
    answers = [];
    told = [];
    loads = 0;
    swaps = 0;
    times = no_times;
    numbers = [];
    known = none_known;
    heard = [];
  }

  abbrev pub first_sight : T → TripleSight T
  first_sight o = Both (first_writer o) (first_reader o)

  -- what is parted off for a receipt, and what is taken in
  abbrev pub told_by : WriterNotes T → Dated T
  told_by p = dated_at (last_or p.opening.value p.written) (known_as p.written p.times)

  abbrev pub receipt_for : TripleSight T → TripleSight T
  receipt_for (Writer p) = Told (snap (told_by p))
  receipt_for v = Spent

  abbrev pub heard_by : ReaderNotes T → Dated T → ReaderNotes T
  heard_by g x =
      record g { told = g.told ++ x.item ∷ []; times = heard_at g.times x.time; heard = g.heard ++ x.writes ∷ [] }

  abbrev pub hears_of : TripleSight T → TripleSight T → TripleSight T
  hears_of (Reader g) (Told x) = Reader (heard_by g x.value)
  hears_of v w = v

  -- the last time of which a view knows
  abbrev pub clock_of : TripleSight T → ℕ
  clock_of Spent = 0
  clock_of (Told x) = x.value.time
  clock_of (Writer p) = p.times.clock
  clock_of (Reader g) = g.times.clock
  clock_of (Both p g) = max p.times.clock g.times.clock

  abbrev pub whole_of : TripleSight T → TripleSight T → TripleSight T
  whole_of (Reader g) (Writer p) = Both p g
  whole_of v w = v
