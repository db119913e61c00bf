-- What contracts see of a family of four-slot cells (this project's own).
use Rattle.std.specs.Prelude.{◌≡◌, ◌≢◌, ℕ, ◌*◌, ◌<◌, ◌≤◌, nat_eq, cond, Option, None, Some, List, [], ◌++◌}
use Rattle.std.specs.Prelude.{length, slice_index_or, slice_index}
use Rattle.four_slot_core.specs.declared.state.Slot.{Slot}
use Rattle.four_slot_core.specs.declared.state.Stage.TheVariants as writer
use Rattle.four_slot_core.specs.declared.state.ReaderStage.TheVariants as reader
use Rattle.four_slot_core.specs.Events.{bit_number, slot_number}
use Rattle.cell_contract.specs.Running.{last_or, held_slots}
use Rattle.cell_contract.specs.Sights.{writer_or, reader_or}
use Rattle.cell_four_slot.specs.declared.notes.WriterNotes.{WriterNotes}
use Rattle.cell_four_slot.specs.declared.notes.ReaderNotes.{ReaderNotes}
use Rattle.cell_contract.specs.declared.sight.Sight.TheVariants.{Spent, Writer, Reader}
use Rattle.cell_four_slot.specs.Steps.{FourSlotSight, first_writer, first_reader, bit_words}
use Rattle.cell_four_slot.specs.Steps.{slot_of_choice, receipt_for}
use Rattle.cell_contract.specs.Accesses.{WriteAccesses, ReadAccesses}
use Rattle.family_four_slot.specs.declared.family.Shown.{Shown}
use Rattle.family_four_slot.specs.declared.family.Stored.{Stored}
use Rattle.family_table.specs.declared.notes.Process.{Process}
use Rattle.family_table.specs.Layouts.{shift}
use Rattle.family_table.specs.Places.{place, writer_of}
use Rattle.family_four_slot.specs.Places.{slot_at}
use Rattle.family_table.specs.Family.{of_cell}
use Rattle.family_four_slot.specs.FourSlots.{Idle}

module _ {T : Type 0} (o : T) (n : ℕ) where
  -- what a process wrote to process j, and what it read from it. It has no cell of its own
  abbrev pub writer_to : Process (FourSlotSight T) → ℕ → WriterNotes T
  writer_to v j = writer_or (first_writer o) (cond (nat_eq j v.who) Spent (of_cell Spent (place n v.who j) v.parts))

  abbrev pub reader_from : Process (FourSlotSight T) → ℕ → ReaderNotes T
  reader_from v j = reader_or (first_reader o) (cond (nat_eq j v.who) Spent (of_cell Spent (place n j v.who) v.parts))

  abbrev pub writes_to : Process (FourSlotSight T) → ℕ → WriteAccesses T
  writes_to v j = let p = writer_to v j in record { items = p.written; times = p.times }

  abbrev pub reads_from : Process (FourSlotSight T) → ℕ → ReadAccesses T
  reads_from v j = let g = reader_from v j in
      record {
        answers = g.answers;
        numbers = g.numbers;
        known = g.known;
        told = g.told;
        heard = g.heard;
        times = g.times;
      }

module _ {T : Type 0} where
  -- the seat has the slot of the last read of a cell, among others
  abbrev pub HasSlots : ℕ → ReaderNotes T → List (ℕ × T) → Type 0
  HasSlots k g cs = (before : List (ℕ × T)) × (behind : List (ℕ × T))
      × (cs ≡ before ++ (shift (slot_at k) (slot_of_choice g.chosen g.at_hand.value) ++ behind))

-- the number of the slot of the last answer, 4 before the first
abbrev pub number_chosen : Option Slot → ℕ
number_chosen None = 4
number_chosen (Some k) = slot_number k

-- what was stored last in the register to a process
abbrev pub none_shown : Shown
none_shown = record { bits = []; latest = 0 }

abbrev pub shown_to : Stored → ℕ → Shown
shown_to kept j = slice_index_or kept.shown j none_shown

module _ {T : Type 0} (o : T) where
  -- a cell that a process writes, between two calls: the pairs' bits and the pair in `latest` are
  -- those that the seat remembers
  pub record IsRow (part : FourSlotSight T) (remembered : List ℕ) (latest : ℕ) : Type 0 where
    pub notes : WriterNotes T
    pub is : part ≡ Writer notes
    pub idle : notes.stage ≡ writer.W5
    pub opened : notes.opening.value ≡ o
    pub newest : notes.finished.value ≡ last_or o notes.written
    pub bits : bit_words notes.remembered ≡ remembered
    pub shown : latest ≡ bit_number notes.latest

  -- and one that it reads: the seat has the slot of the last answer, and remembers its number
  pub record IsColumn (k : ℕ) (part : FourSlotSight T) (slot : ℕ) (cs : List (ℕ × T)) : Type 0 where
    pub notes : ReaderNotes T
    pub is : part ≡ Reader notes
    pub idle : notes.stage ≡ reader.R5
    pub opened : notes.opening.value ≡ o
    pub slots : HasSlots k notes cs
    pub chosen : slot ≡ number_chosen notes.chosen
    pub last : notes.at_hand.value ≡ last_or o notes.answers

  -- a process of n between two calls. Of cells that it doesn't write it tells nothing
  pub record IsAtRest (n : ℕ) (v : Process (FourSlotSight T)) (kept : Stored) (cs : List (ℕ × T)) : Type 0 where
    pub inside : v.who < n
    pub parts : length v.parts ≡ n * n
    pub held : v.held ≡ held_slots cs
    pub idle : (k : ℕ) → Idle (of_cell Spent k v.parts)
    pub quiet : (k : ℕ) → writer_of n k ≢ v.who → receipt_for (of_cell Spent k v.parts) ≡ Spent
    pub long : (n ≤ length kept.shown) × (n ≤ length kept.reads)
    pub row : (j : ℕ) → j < n → j ≢ v.who →
        IsRow (of_cell Spent (place n v.who j) v.parts) (shown_to kept j).bits (shown_to kept j).latest
    pub column : (j : ℕ) → j < n → j ≢ v.who →
        IsColumn (place n j v.who) (of_cell Spent (place n j v.who) v.parts) (slice_index kept.reads j) cs
