-- What the seat of a process has of a cell (this project's own).
use Rattle.std.specs.Prelude.{◌≡◌, ℕ, ◌<◌, List, [], ◌∷◌, length}
use Rattle.four_slot_core.specs.declared.state.Stage.TheVariants as writer
use Rattle.four_slot_core.specs.declared.state.ReaderStage.TheVariants as reader
use Rattle.history_core.specs.Registers.{intervals, IsRegular}
use Rattle.cell_contract.specs.Intervals.{AreAtomic, AreFirst, HaveEnded}
use Rattle.family_four_slot.specs.Places.{four_slots}
use Rattle.atomic_table.specs.Table.{Me}
use Rattle.cell_contract.specs.Running.{held_slots}
use Rattle.cell_four_slot.specs.declared.notes.WriterNotes.{WriterNotes}
use Rattle.cell_four_slot.specs.declared.notes.ReaderNotes.{ReaderNotes}
use Rattle.cell_contract.specs.declared.sight.Sight.TheVariants.{Spent, Writer, Reader}
use Rattle.cell_four_slot.specs.Steps.{FourSlotSight}
use Rattle.family_table.specs.declared.notes.Process.{Process}
use Rattle.family_table.specs.declared.notes.View.{View}
use Rattle.family_table.specs.declared.notes.View.TheVariants.{Has}
use Rattle.family_table.specs.Family.{of_cell}
use Rattle.family_table.specs.Ends.{AllDone}

module _ {T : Type 0} where
  -- the seat knows what this process does, and has the slots that the view says
  pub record HasProcess (me : Me T (View (FourSlotSight T))) (k : ℕ) (v : Process (FourSlotSight T)) : Type 0 where
    pub one : me.0 ≡ Has (v ∷ [])
    pub has : k < length v.parts
    pub held : v.held ≡ held_slots me.1

  -- it writes cell k with these notes, or reads it
  pub record HasWriter (me : Me T (View (FourSlotSight T))) (k : ℕ) (v : Process (FourSlotSight T))
      (p : WriterNotes T) : Type 0 where
    pub process : HasProcess me k v
    pub notes : of_cell Spent k v.parts ≡ Writer p

  pub record HasReader (me : Me T (View (FourSlotSight T))) (k : ℕ) (v : Process (FourSlotSight T))
      (g : ReaderNotes T) : Type 0 where
    pub process : HasProcess me k v
    pub notes : of_cell Spent k v.parts ≡ Reader g

-- the calls of one cell, none of which is under way
pub record IsDone {T : Type 0} (o : T) (p : WriterNotes T) (g : ReaderNotes T) : Type 0 where
  pub atomic : AreAtomic o p.written p.times g.answers g.numbers g.times
  pub ended : HaveEnded p.times
  pub known : AreFirst g.known p.written p.times

-- the calls of a cell by what its two processes know of it: each answer is the record with its number, by the intervals
-- so far; and more, if no call is under way
abbrev pub Done : {T : Type 0} → T → FourSlotSight T → FourSlotSight T → Type 0
Done o v w = (p : WriterNotes _) (g : ReaderNotes _) → v ≡ Writer p → w ≡ Reader g →
    IsRegular o p.written (intervals p.times.begins p.times.ends) g.answers g.numbers
    (intervals g.times.begins g.times.ends)
    × (p.stage ≡ writer.W5 → g.stage ≡ reader.R5 → IsDone o p g)

-- at the end: one schedule, and the calls of each cell whose two processes the seat has
abbrev pub IsEnded : {T : Type 0} → ℕ → T → List (Process (FourSlotSight T)) → Type 0
IsEnded n o ps = AllDone Spent (four_slots n) (Done o) n ps
