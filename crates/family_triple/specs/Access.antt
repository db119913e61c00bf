-- What an access of one cell makes of a seat (this project's own).
use Rattle.std.specs.Prelude.{◌≡◌, Bool, true, false, ℕ, ◌<◌, List, [], ◌∷◌, length, slice_index_or}
use Rattle.atomic_table.specs.Table.{Me}
use Rattle.cell_contract.specs.Intervals.{AreHeeded}
use Rattle.cell_contract.specs.Running.{held_slots}
use Rattle.cell_contract.specs.declared.times.Known.{Known}
use Rattle.cell_contract.specs.declared.sight.Sight.TheVariants.{Spent, Reader}
use Rattle.cell_triple.specs.declared.notes.ReaderNotes.{ReaderNotes}
use Rattle.cell_triple.specs.Steps.{TripleSight, answered, MayAnswer, HasAnswered}
use Rattle.cell_contract.specs.Accesses.{IsUnused}
use Rattle.cell_contract.specs.Rows.{SeesNew}
use Rattle.family_table.specs.declared.notes.Process.{Process}
use Rattle.family_table.specs.declared.notes.View.{View}
use Rattle.family_table.specs.declared.notes.View.TheVariants.{Has}
use Rattle.family_table.specs.Family.{knows}
use Rattle.family_triple.specs.Places.{slot_at}
use Rattle.family_triple.specs.Words.{IsAtRest, writes_to, reads_from}

module _ {T : Type 0} where
  -- After a load, and a swap where that found the mark: the read is decided. The seat's first slot, of this number, has
  -- the answer, and where no mark was found it is the record at hand before; `notes` are those with which the deciding
  -- step went on
  pub record HasLooked (fits : T → Type 0) (rises : T → T → Type 0) (k : ℕ) (v : Process (TripleSight T))
      (g : ReaderNotes T) (cs : List (ℕ × T))
      (me : Me T (View (TripleSight T))) (slot : ℕ) (marked : Bool) : Type 0 where
    pub notes : ReaderNotes T
    pub answer : T
    pub time : ℕ
    pub number : ℕ
    pub writes : Known T
    pub same : (notes.answers ≡ g.answers) × (notes.told ≡ g.told) × (notes.times ≡ g.times)
    pub kept : (notes.has ≡ g.has) × (notes.opening.value ≡ g.opening.value)
    pub took : (notes.slot ≡ slot) × (notes.at_hand.value ≡ answer) × (slot < 3)
    pub later : v.clock < time
    pub slots : me.1 ≡ (slot_at k slot, answer) ∷ cs
    pub view : me.0 ≡ Has (knows Spent v k (Reader (answered notes answer time number writes)) time
        (held_slots ((slot_at k slot, answer) ∷ cs)) ∷ [])
    pub may : MayAnswer fits rises g answer
    pub again : marked ≡ false → answer ≡ g.at_hand.value
    pub did : HasAnswered g (answered notes answer time number writes) answer
    pub heard : notes.heard ≡ g.heard
    pub heeds : AreHeeded g.heard writes number

  -- a read of one process shows each answer, or only where it is new
  abbrev pub shown_by : {L : Type 0} → Bool → (L → T → L → Type 0) → T → L → T → L → Type 0
  shown_by true sees = λ last. sees
  shown_by false sees = SeesNew sees

  -- Before the first call: the process has its slots, those with number 0 to write and those with number 2
  -- to read, and has done nothing
  pub record IsReady (o : T) (n who : ℕ) (me : Me T (View (TripleSight T))) : Type 0 where
    pub process : Process (TripleSight T)
    pub one : me.0 ≡ Has (process ∷ [])
    pub number : process.who ≡ who
    pub rest : (fills reads : List ℕ) → (length fills ≡ 16) → (length reads ≡ 16) →
        ((j : ℕ) → j < n → slice_index_or fills j 0 ≡ 0) → ((j : ℕ) → j < n → slice_index_or reads j 0 ≡ 2) →
        IsAtRest o n process fills reads me.1
    pub unused : IsUnused process.clock process.times (writes_to o n process) (reads_from o n process) process.said
        process.found
