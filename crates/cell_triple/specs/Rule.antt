-- The rule of the triple buffer: one word, `middle + 4 * fresh`, and three slots. The triple buffer is in common use;
-- the layout of the word is this project's own.
use Rattle.std.specs.Prelude.{◌≡◌, ◌≢◌, ℕ, ◌+◌, ◌*◌, ◌<◌, ◌≤◌, Some, List, [], ◌∷◌, length, All, slice_get}
use mathlib.Core.Option.{some, Option as Opt}
use lib.ListN.{get_elem?}
use Rattle.atomic_table.specs.Table.{State}
use Rattle.cell_contract.specs.Running.{last_or, Settled, Stands, Rising}
use Rattle.cell_contract.specs.Intervals.{At, InTurn, IsBy, IsLate, HasBegun, AreFirst, AreHeeded, IsHeeded, known_as}
use Rattle.cell_triple.specs.declared.notes.WriterNotes.{WriterNotes}
use Rattle.cell_triple.specs.declared.notes.ReaderNotes.{ReaderNotes}
use Rattle.cell_triple.specs.Steps.{TripleSight}
use Rattle.cell_contract.specs.declared.sight.Sight.TheVariants.{Spent, Told, Writer, Reader, Both}

module _ {T : Type 0} where
  -- The word and the slots: the writer's slot, the reader's and the middle are three, and a slot
  -- that nobody took is at home.
  pub record InTable (words : List ℕ) (homes : List (Opt T)) (o : T) (p : WriterNotes T) (g : ReaderNotes T)
      (middle fresh : ℕ) (in_middle : T) : Type 0 where
    pub word_is : words ≡ (middle + 4 * fresh) ∷ []
    pub three : length homes ≡ 3
    pub small : (middle < 3) × (fresh < 2) × (p.slot < 3) × (g.slot < 3)
    pub apart : (p.slot ≢ middle) × (g.slot ≢ middle) × (p.slot ≢ g.slot)
    pub middle_home : get_elem? homes middle ≡ some (some in_middle)
    pub put_home : p.has ≡ 0 → get_elem? homes p.slot ≡ some (some o)
    pub get_home : g.has ≡ 0 → get_elem? homes g.slot ≡ some (some g.at_hand.value)

  -- Where the record written last is, and what the mark says.
  pub record HasFreshest (o : T) (p : WriterNotes T) (g : ReaderNotes T) (fresh : ℕ) (in_middle : T) : Type 0 where
    pub marked : fresh ≡ 1 → in_middle ≡ last_or o p.written
    pub unmarked : fresh ≡ 0 → g.at_hand.value ≡ last_or o p.written
    pub asked : g.asked ≡ 1 → fresh ≡ 1
    pub unread : fresh ≡ 1 → 0 < length p.written

  -- The writer's swaps are as many as the records written. The reader's loads are as many as its answers, and one more
  -- while a mark was found and not taken.
  pub record IsCounted (p : WriterNotes T) (g : ReaderNotes T) : Type 0 where
    pub swapped : p.swaps ≡ length p.written
    pub loaded : g.loads ≡ length g.answers + g.asked

  -- the answers are settled against what was written, and what was told stands in it
  abbrev pub IsSettled : T → List T → List T → List T → Type 0
  IsSettled o written answers told = Settled (o ∷ written) answers × All (λ x. Stands x (o ∷ written)) told

  -- The calls in the table's time, of which `now` is the last
  pub record IsTimed (o : T) (p : WriterNotes T) (g : ReaderNotes T) (now : ℕ) : Type 0 where
    -- no pass knows of a later time
    pub put_clock : p.times.clock ≤ now
    pub get_clock : g.times.clock ≤ now
    pub put_by : IsBy p.times
    pub get_by : IsBy g.times
    pub put_turn : InTurn p.times.begins p.times.ends
    pub get_turn : InTurn g.times.begins g.times.ends
    -- each write has its beginning and its end, and so has each read, and its number
    pub begun_writes : length p.times.begins ≡ length p.written
    pub ended_writes : length p.times.ends ≡ length p.written
    pub begun_reads : length g.times.begins ≡ length g.answers
    pub ended_reads : length g.times.ends ≡ length g.answers
    pub numbered : length g.numbers ≡ length g.answers
    -- an answer is the record with its number; no write that ended before the read began has a greater number; the
    -- write with the number began before the read ended; and the numbers never fall, up to that of the last write
    pub source : (m n : ℕ) (x : T) → At g.numbers m n → slice_get g.answers m ≡ Some x →
        slice_get (o ∷ p.written) n ≡ Some x
    pub late : (m n b : ℕ) → At g.numbers m n → At g.times.begins m b → IsLate p.times.ends b n
    pub begun : (m n e : ℕ) → At g.numbers m n → At g.times.ends m e → HasBegun p.times.begins e n
    pub rising : (i j a b : ℕ) → At g.numbers i a → At g.numbers j b → i ≤ j → a ≤ b
    pub to_last : (m n : ℕ) → At g.numbers m n → n ≤ length p.written
    -- what each receipt told is heeded by an answer with the number of the last write
    pub heeded : AreHeeded g.heard (known_as p.written p.times) (length p.written)

  -- what a seat's view says, where the writer's notes are p and the reader's g
  module _ (o : T) (p : WriterNotes T) (g : ReaderNotes T) (now writer reader seat : ℕ) where
    abbrev pub Sees : TripleSight T → Type 0
    Sees Spent = Unit {0}
    Sees (Told x) = Stands x.value.item (o ∷ p.written) × (x.value.time ≤ now)
        × IsHeeded x.value.writes (known_as p.written p.times) (length p.written)
    Sees (Writer q) = (q ≡ p) × (seat ≡ writer)
    Sees (Reader h) = (h ≡ g) × (seat ≡ reader)
    Sees (Both q h) = (q ≡ p) × (h ≡ g) × (seat ≡ writer) × (seat ≡ reader)

-- The rule. `o` is the opening.
pub record TripleRule {T : Type 0} (fits : T → Type 0) (rises : T → T → Type 0) (o : T)
    (s : State T (TripleSight T)) : Type 0 where
  pub put : WriterNotes T
  pub get : ReaderNotes T
  pub writer : ℕ
  pub reader : ℕ
  pub middle : ℕ
  pub fresh : ℕ
  pub in_middle : T
  pub in_table : InTable s.words s.homes o put get middle fresh in_middle
  pub newest : HasFreshest o put get fresh in_middle
  pub settled : IsSettled o put.written get.answers get.told
  pub counted : IsCounted put get
  pub openings : (put.opening.value ≡ o) × (get.opening.value ≡ o)
  pub lawful : fits o × Rising fits rises o put.written
  -- the time of the last step of a call
  pub now : ℕ
  pub timed : IsTimed o put get now
  -- the writes that the reader knows of are the first of those made
  pub known : AreFirst get.known put.written put.times
  pub each_seat : (j : ℕ) (v : TripleSight T) → get_elem? s.views j ≡ some v → Sees o put get now writer reader j v
