-- What the seat of a process has of a cell (this project's own).
use Rattle.std.specs.Prelude.{◌≡◌, ℕ, ◌<◌, List, [], ◌∷◌, ◌++◌, length}
use Rattle.atomic_table.specs.Table.{Me}
use Rattle.cell_contract.specs.Intervals.{AreAtomic, AreFirst, HaveEnded}
use Rattle.cell_contract.specs.Running.{held_slots}
use Rattle.cell_triple.specs.declared.notes.WriterNotes.{WriterNotes}
use Rattle.cell_triple.specs.declared.notes.ReaderNotes.{ReaderNotes}
use Rattle.cell_contract.specs.declared.sight.Sight.TheVariants.{Spent, Writer, Reader}
use Rattle.cell_triple.specs.Steps.{TripleSight}
use Rattle.family_table.specs.declared.notes.Process.{Process}
use Rattle.family_table.specs.declared.notes.View.{View}
use Rattle.family_table.specs.declared.notes.View.TheVariants.{Has}
use Rattle.family_table.specs.Family.{of_cell}
use Rattle.family_table.specs.Ends.{AllDone}
use Rattle.family_triple.specs.Places.{triples}

-- the same list, begun at another place
abbrev pub IsRotated : {A : Type 0} → List A → List A → Type 0
IsRotated {A} xs ys = (front : List A) × (back : List A) × (xs ≡ front ++ back) × (ys ≡ back ++ front)

module _ {T : Type 0} where
  -- the seat knows what this process does, and has the slots that the view says, from whichever on
  pub record HasProcess (me : Me T (View (TripleSight T))) (k : ℕ) (v : Process (TripleSight T)) : Type 0 where
    pub one : me.0 ≡ Has (v ∷ [])
    pub has : k < length v.parts
    pub held : IsRotated v.held (held_slots me.1)

  -- it writes cell k with these notes, or reads it
  pub record HasWriter (me : Me T (View (TripleSight T))) (k : ℕ) (v : Process (TripleSight T))
      (p : WriterNotes T) : Type 0 where
    pub process : HasProcess me k v
    pub notes : of_cell Spent k v.parts ≡ Writer p

  pub record HasReader (me : Me T (View (TripleSight T))) (k : ℕ) (v : Process (TripleSight T))
      (g : ReaderNotes T) : Type 0 where
    pub process : HasProcess me k v
    pub notes : of_cell Spent k v.parts ≡ Reader g

-- the calls of one cell
pub record IsDone {T : Type 0} (o : T) (p : WriterNotes T) (g : ReaderNotes T) : Type 0 where
  pub atomic : AreAtomic o p.written p.times g.answers g.numbers g.times
  pub ended : HaveEnded p.times
  pub known : AreFirst g.known p.written p.times

-- the calls of a cell by what its two processes know of it
abbrev pub Done : {T : Type 0} → T → TripleSight T → TripleSight T → Type 0
Done o v w = (p : WriterNotes _) (g : ReaderNotes _) → v ≡ Writer p → w ≡ Reader g → IsDone o p g

-- at the end: one schedule, and the calls of each cell whose two processes the seat has
abbrev pub IsEnded : {T : Type 0} → ℕ → T → List (Process (TripleSight T)) → Type 0
IsEnded n o ps = AllDone Spent (triples n) (Done o) n ps
