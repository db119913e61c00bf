-- What contracts see of a family of triple buffers (this project's own).
use Rattle.std.specs.Prelude.{◌≡◌, ◌≢◌, ℕ, ◌+◌, ◌*◌, ◌-◌, ◌<◌, nat_eq, cond, List, length, slice_index_or}
use mathlib.Core.Option.{some}
use lib.ListN.{get_elem?}
use Rattle.cell_contract.specs.Running.{held_slots, last_or}
use Rattle.cell_contract.specs.Sights.{writer_or, reader_or}
use Rattle.cell_triple.specs.declared.notes.WriterNotes.{WriterNotes}
use Rattle.cell_triple.specs.declared.notes.ReaderNotes.{ReaderNotes}
use Rattle.cell_contract.specs.declared.sight.Sight.TheVariants.{Spent, Writer, Reader}
use Rattle.cell_triple.specs.Steps.{TripleSight, first_writer, first_reader, receipt_for}
use Rattle.cell_contract.specs.Accesses.{WriteAccesses, ReadAccesses}
use Rattle.family_table.specs.declared.notes.Process.{Process}
use Rattle.family_table.specs.Family.{of_cell}
use Rattle.family_table.specs.Places.{place, writer_of}
use Rattle.family_triple.specs.Places.{among, slot_at}
use Rattle.family_triple.specs.Tables.{IsRotated}

module _ {T : Type 0} where
  abbrev pub writes_by : WriterNotes T → WriteAccesses T
  writes_by p = record { items = p.written; times = p.times }

  abbrev pub reads_by : ReaderNotes T → ReadAccesses T
  reads_by g =
      record {
        answers = g.answers;
        numbers = g.numbers;
        known = g.known;
        told = g.told;
        heard = g.heard;
        times = g.times;
      }

module _ {T : Type 0} (o : T) (n : ℕ) where
  -- what a process wrote to process j, and what it read from it; of itself it has nothing
  abbrev pub part_to : Process (TripleSight T) → ℕ → TripleSight T
  part_to v j = cond (nat_eq j v.who) Spent (of_cell Spent (place n v.who j) v.parts)

  abbrev pub part_from : Process (TripleSight T) → ℕ → TripleSight T
  part_from v j = cond (nat_eq j v.who) Spent (of_cell Spent (place n j v.who) v.parts)

  abbrev pub writes_to : Process (TripleSight T) → ℕ → WriteAccesses T
  writes_to v j = writes_by (writer_or (first_writer o) (part_to v j))

  abbrev pub reads_from : Process (TripleSight T) → ℕ → ReadAccesses T
  reads_from v j = reads_by (reader_or (first_reader o) (part_from v j))

module _ {T : Type 0} (o : T) where
  -- a cell that a process writes, between two calls: its slot, of this number, is one of the seat's
  pub record IsRow (k : ℕ) (part : TripleSight T) (slots : List (ℕ × T)) (at number : ℕ) : Type 0 where
    pub notes : WriterNotes T
    pub is : part ≡ Writer notes
    pub took : notes.has ≡ 1
    pub opened : notes.opening.value ≡ o
    pub low : notes.slot < 3
    pub numbered : notes.slot ≡ number
    pub record_there : T
    pub slot : get_elem? slots at ≡ some (slot_at k notes.slot, record_there)

  -- and one that it reads: the slot has the record at hand, the last answer
  pub record IsColumn (k : ℕ) (part : TripleSight T) (slots : List (ℕ × T)) (at number : ℕ) : Type 0 where
    pub notes : ReaderNotes T
    pub is : part ≡ Reader notes
    pub took : notes.has ≡ 1
    pub free : notes.asked ≡ 0
    pub opened : notes.opening.value ≡ o
    pub low : notes.slot < 3
    pub numbered : notes.slot ≡ number
    pub slot : get_elem? slots at ≡ some (slot_at k notes.slot, notes.at_hand.value)
    pub last : notes.at_hand.value ≡ last_or o notes.answers

  -- a process of n between two calls: its seat has the slots of its row, in turn, and then those of its column, and
  -- keeps their numbers. Of cells that it doesn't write it tells nothing
  pub record IsAtRest (n : ℕ) (v : Process (TripleSight T)) (fills reads : List ℕ) (slots : List (ℕ × T)) : Type 0 where
    pub inside : v.who < n
    pub parts : length v.parts ≡ n * n
    pub held : IsRotated v.held (held_slots slots)
    pub many : length slots ≡ 2 * (n - 1)
    pub sized : (length fills ≡ 16) × (length reads ≡ 16)
    pub quiet : (k : ℕ) → writer_of n k ≢ v.who → receipt_for (of_cell Spent k v.parts) ≡ Spent
    pub row : (j : ℕ) → j < n → j ≢ v.who →
        IsRow (place n v.who j) (of_cell Spent (place n v.who j) v.parts) slots (among v.who j)
        (slice_index_or fills j 0)
    pub column : (j : ℕ) → j < n → j ≢ v.who →
        IsColumn (place n j v.who) (of_cell Spent (place n j v.who) v.parts) slots ((n - 1) + among v.who j)
        (slice_index_or reads j 0)
