-- The rule of the running four-slot cell: word 0 is `latest`, word 1 `reading`, words 2 and 3 are the bits of the
-- pairs, and a slot has the number 2 * pair + index. Its states are those of the register of H. Simpson, Four-slot
-- fully asynchronous communication mechanism, IEE Proceedings E, 1990.
use Rattle.std.specs.Prelude.{◌≡◌, ◌≢◌, ℕ, suc, ◌+◌, ◌-◌, ◌<◌, ◌≤◌, Bool, Some, List, []}
use Rattle.std.specs.Prelude.{◌∷◌, length, take, All, slice_get}
use Rattle.std.specs.Prelude.{if◌then◌else◌}
use mathlib.Core.Option.{some, Option as Opt}
use lib.ListN.{get_elem?}
use Rattle.atomic_table.specs.Table.{State}
use Rattle.four_slot_core.specs.declared.state.Slot.{Slot}
use Rattle.four_slot_core.specs.declared.state.State.{State as Core}
use Rattle.four_slot_core.specs.declared.state.Stage.{Stage}
use Rattle.four_slot_core.specs.declared.state.Stage.TheVariants as writer
use Rattle.four_slot_core.specs.declared.state.ReaderStage.{ReaderStage}
use Rattle.four_slot_core.specs.declared.state.ReaderStage.TheVariants as reader
use Rattle.four_slot_core.specs.declared.event.WriteEvent.{WriteEvent}
use Rattle.four_slot_core.specs.declared.event.WriteEvent.TheVariants.{W2, W3}
use Rattle.four_slot_core.specs.declared.event.ReadEvent.{ReadEvent}
use Rattle.four_slot_core.specs.declared.event.ReadEvent.TheVariants.{R4, R5}
use Rattle.four_slot_core.specs.Events.{side, record_in, slot_with, same_slot, bit_number, slot_number, opening_state}
use Rattle.four_slot_core.specs.Invariant.{IsUnderWay, HasSlot, IsStored, IsKept, latest_slot, IsSound}
use Rattle.four_slot_core.specs.Freshness.{IsBegun}
use Rattle.four_slot_core.specs.Interleaving.{Leads}
use Rattle.cell_contract.specs.Running.{Settled, Rising}
use Rattle.cell_contract.specs.Intervals.{At, InTurn, IsBy, IsLate, HasBegun, AreFirst, AreHeeded, IsHeeded, known_as}
use Rattle.cell_four_slot.specs.declared.notes.WriterNotes.{WriterNotes}
use Rattle.cell_four_slot.specs.declared.notes.ReaderNotes.{ReaderNotes}
use Rattle.cell_four_slot.specs.Steps.{FourSlotSight}
use Rattle.cell_contract.specs.declared.sight.Sight.TheVariants.{Spent, Told, Writer, Reader, Both}

-- the number of the last of the writes n + 1, n + 2, .. with the slot k, where the slots of these writes are
-- given; `best` where there is none
abbrev pub number_from : ℕ → ℕ → List Slot → Slot → ℕ
number_from best n [] k = best
number_from best n (j ∷ js) k = number_from (if same_slot k j then n + 1 else best) (n + 1) js k

-- The writes are numbered 1, 2, .. in their order, and the opening has number 0. The number of a slot's record is that
-- of the last write with the slot.
abbrev pub number_in : List Slot → Slot → ℕ
number_in slots k = number_from 0 0 slots k

-- the number of the last finished write, where the list has n
abbrev pub finished_number : Stage → ℕ → ℕ
finished_number writer.W5 n = n
finished_number _ n = n - 1

-- the number of reads that have begun, where so many have ended
abbrev pub begun_number : ReaderStage → ℕ → ℕ
begun_number reader.R1 n = n + 1
begun_number reader.R2 n = n + 1
begun_number _ n = n

-- between two steps of a table the last events are these: W1, W2 and W3 are one step, and so are R3, R4 and R5
abbrev pub IsWriterShown : Stage → Type 0
IsWriterShown writer.W1 = ⊥
IsWriterShown writer.W2 = ⊥
IsWriterShown _ = Unit {0}

abbrev pub IsReaderShown : ReaderStage → Type 0
IsReaderShown reader.R3 = ⊥
IsReaderShown reader.R4 = ⊥
IsReaderShown _ = Unit {0}

module _ {T : Type 0} where
  -- the slot that the bit of a pair names
  abbrev pub named_slot : Core T → Bool → Slot
  named_slot c q = slot_with q (side c.slot q)

  -- the record stands in the list, at the place n or before it
  abbrev pub StandsBy : ℕ → List T → T → Type 0
  StandsBy n xs x = (k : ℕ) × (k ≤ n) × (get_elem? xs k ≡ some x)

  -- the slot that the writer has, and the one that the reader has
  abbrev pub HeldByWriter : Core T → Slot → Type 0
  HeldByWriter c k = HasSlot c.writer × (k ≡ c.write)

  abbrev pub HeldByReader : Core T → Slot → Type 0
  HeldByReader c k = IsKept c.reader × (c.chosen ≡ Some k)

  -- The words and the slots show this state: words 0 to 3 are its bits, and its slots have the home values or what the
  -- holder's view says.
  pub record InTable (words : List ℕ) (homes : List (Opt T)) (at_hand : T) (c : Core T) : Type 0 where
    pub words_are : words ≡ bit_number c.latest ∷ bit_number c.reading ∷ bit_number c.slot.zero
        ∷ bit_number c.slot.one ∷ []
    pub four : length homes ≡ 4
    pub home : (k : Slot) → (HeldByWriter c k → ⊥) → (HeldByReader c k → ⊥) →
        get_elem? homes (slot_number k) ≡ some (some (record_in c.records k))
    pub in_writer : HasSlot c.writer → record_in c.records c.write ≡ c.item
    pub in_reader : (k : Slot) → HeldByReader c k → record_in c.records k ≡ at_hand

  -- The views show this state: the writer's stage, slot, item, remembered bits and last pair, the
  -- reader's stage, slot and choice.
  pub record InViews (p : WriterNotes T) (g : ReaderNotes T) (c : Core T) : Type 0 where
    pub writer_at : c.writer ≡ p.stage
    pub write_is : c.write ≡ p.slot
    pub item_is : c.item ≡ p.item.value
    pub remembered_are : c.remembered ≡ p.remembered
    pub latest_is : c.latest ≡ p.latest
    pub reader_at : c.reader ≡ g.stage
    pub read_is : c.read ≡ g.slot
    pub chosen_is : c.chosen ≡ g.chosen

  -- the answers are settled up to the write n, and what was told stands as far
  abbrev pub UpTo : T → List T → List T → List T → ℕ → Type 0
  UpTo o written answers told n = Settled (o ∷ take n written) answers × All (StandsBy n (o ∷ written)) told

  -- The numbers of the records. `last` is the record of the last finished write.
  pub record IsNumbered (o : T) (written : List T) (slots : List Slot) (last : T) (c : Core T) : Type 0 where
    pub counted : length slots ≡ length written
    pub under_way : IsUnderWay c.writer → 0 < length written
    -- a slot's record is that of the last W1 with that slot
    pub content : (k : Slot) → get_elem? (o ∷ written) (number_in slots k) ≡ some (record_in c.records k)
    -- only the slot of the last W1 has the number of the last write, and every other slot's number is smaller
    pub newest : number_in slots c.write ≡ length written
    pub older : (k : Slot) → k ≢ c.write → 0 < length written → number_in slots k < length written
    pub finished : get_elem? (o ∷ written) (finished_number c.writer (length written)) ≡ some last
    pub latest : (IsStored c.writer → c.write.pair ≢ c.latest) →
        number_in slots (latest_slot c) ≡ finished_number c.writer (length written)

  -- The answers are settled against the written list up to the record in the slot that `latest` and its bit name and,
  -- between R1 and R3, up to that in the slot that the reader's pair and its bit name. What was told stands as far.
  pub record IsSettled (o : T) (written : List T) (slots : List Slot) (answers told : List T)
      (c : Core T) : Type 0 where
    pub to_latest : UpTo o written answers told (number_in slots (latest_slot c))
    pub to_pair : IsBegun c.reader → UpTo o written answers told (number_in slots (named_slot c c.read.pair))

  -- The calls in the table's time, of which `now` is the last. `shown` is the number of the record in the slot that
  -- `latest` and its bit name, and `pair` that of the record in the slot that the reader's pair and its bit name.
  pub record IsTimed (o : T) (p : WriterNotes T) (g : ReaderNotes T) (now : ℕ) (w : Stage) (r : ReaderStage)
      (shown pair : ℕ) : Type 0 where
    -- no pass knows of a later time
    pub put_clock : p.times.clock ≤ now
    pub get_clock : g.times.clock ≤ now
    pub put_by : IsBy p.times
    pub get_by : IsBy g.times
    pub put_turn : InTurn p.times.begins p.times.ends
    pub get_turn : InTurn g.times.begins g.times.ends
    -- each write has its beginning and, once it is finished, its end; and so has each read, and
    -- once it has ended its number
    pub begun_writes : length p.times.begins ≡ length p.written
    pub ended_writes : length p.times.ends ≡ finished_number w (length p.written)
    pub begun_reads : length g.times.begins ≡ begun_number r (length g.answers)
    pub ended_reads : length g.times.ends ≡ length g.answers
    pub numbered : length g.numbers ≡ length g.answers
    -- an answer is the record with its number; no write that ended before the read began has a greater number; and the
    -- write with the number began before the read ended
    pub source : (m n : ℕ) (x : T) → At g.numbers m n → slice_get g.answers m ≡ Some x →
        slice_get (o ∷ p.written) n ≡ Some x
    pub late : (m n b : ℕ) → At g.numbers m n → At g.times.begins m b → IsLate p.times.ends b n
    pub begun : (m n e : ℕ) → At g.numbers m n → At g.times.ends m e → HasBegun p.times.begins e n
    -- the numbers never fall, up to what the next read can have
    pub rising : (i j a b : ℕ) → At g.numbers i a → At g.numbers j b → i ≤ j → a ≤ b
    pub to_latest : (m n : ℕ) → At g.numbers m n → n ≤ shown
    pub to_pair : IsBegun r → (m n : ℕ) → At g.numbers m n → n ≤ pair
    -- what the read in progress will be told is late enough already
    pub pending : IsBegun r → (b : ℕ) → At g.times.begins (length g.answers) b → IsLate p.times.ends b pair
    -- what each receipt told is heeded by what the next read can be told
    pub heeded : AreHeeded g.heard (known_as p.written p.times) shown
    pub pair_heeded : IsBegun r → AreHeeded g.heard (known_as p.written p.times) pair

  -- What a seat knows. `shown` is the number of the record in the slot that `latest` and its bit name.
  module _ (o : T) (p : WriterNotes T) (g : ReaderNotes T) (shown now writer reader seat : ℕ) where
    abbrev pub Sees : FourSlotSight T → Type 0
    Sees Spent = Unit {0}
    Sees (Told x) = StandsBy shown (o ∷ p.written) x.value.item × (x.value.time ≤ now)
        × IsHeeded x.value.writes (known_as p.written p.times) shown
    Sees (Writer q) = (q ≡ p) × (seat ≡ writer)
    Sees (Reader h) = (h ≡ g) × (seat ≡ reader)
    Sees (Both q h) = (q ≡ p) × (h ≡ g) × (seat ≡ writer) × (seat ≡ reader)

-- the control accesses among events: W1, W4 and W5, and R1, R2 and R3
module _ {T : Type 0} where
  abbrev pub control_writes : List (WriteEvent T) → ℕ
  control_writes [] = 0
  control_writes (W2 ∷ es) = control_writes es
  control_writes (W3 ∷ es) = control_writes es
  control_writes (_ ∷ es) = suc (control_writes es)

  abbrev pub control_reads : List (ReadEvent T) → ℕ
  control_reads [] = 0
  control_reads (R4 ∷ es) = control_reads es
  control_reads (R5 _ ∷ es) = control_reads es
  control_reads (_ ∷ es) = suc (control_reads es)

  -- a pass's count is at most the number of control accesses among its events: a store that changes nothing needs none
  pub record IsCounted (p : WriterNotes T) (g : ReaderNotes T) : Type 0 where
    pub writes : p.accesses ≤ control_writes p.events
    pub reads : g.accesses ≤ control_reads g.events

-- The rule. `o` is the opening. It stands for the noise too; no running read meets a write (`sound`), so
-- none is answered by it as noise.
pub record FourSlotRule {T : Type 0} (fits : T → Type 0) (rises : T → T → Type 0) (o : T)
    (s : State T (FourSlotSight T)) : Type 0 where
  pub put : WriterNotes T
  pub get : ReaderNotes T
  pub writer : ℕ
  pub reader : ℕ
  -- the state shown
  pub core : Core T
  pub in_table : InTable s.words s.homes get.at_hand.value core
  pub in_views : InViews put get core
  pub noise : core.noise ≡ o
  pub shown : IsWriterShown core.writer × IsReaderShown core.reader
  pub sound : IsSound core put.finished.value
  pub numbered : IsNumbered o put.written put.slots put.finished.value core
  pub settled : IsSettled o put.written put.slots get.answers get.told core
  pub counted : IsCounted put get
  pub openings : (put.opening.value ≡ o) × (get.opening.value ≡ o)
  pub lawful : fits o × Rising fits rises o put.written
  pub leads : Leads put.events get.events (opening_state o o) core
  -- the time of the last step on a word
  pub now : ℕ
  pub timed : IsTimed o put get now core.writer core.reader (number_in put.slots (latest_slot core))
      (number_in put.slots (named_slot core core.read.pair))
  -- the writes that the reader knows of are the first of those made
  pub known : AreFirst get.known put.written put.times
  pub each_seat : (j : ℕ) (v : FourSlotSight T) → get_elem? s.views j ≡ some v →
      Sees o put get (number_in put.slots (latest_slot core)) now writer reader j v
