-- The plan of a process of a family of triple buffers, by what it knows (this project's own).
use Rattle.std.specs.Prelude.{◌≡◌, ◌≢◌, ℕ, ◌<◌, List}
use Rattle.atomic_table.specs.Table.{Me}
use Rattle.cell_contract.specs.Plans.{Doings, doings}
use Rattle.cell_contract.specs.declared.times.Known.{Known}
use Rattle.cell_contract.specs.declared.sight.Sight.TheVariants.{Spent, Writer, Reader}
use Rattle.cell_triple.specs.declared.notes.WriterNotes.{WriterNotes}
use Rattle.cell_triple.specs.declared.notes.ReaderNotes.{ReaderNotes}
use Rattle.cell_triple.specs.Steps.{TripleSight, published, answered}
use Rattle.family_table.specs.declared.notes.Opened.{Opened}
use Rattle.family_table.specs.declared.notes.Process.{Process}
use Rattle.family_table.specs.declared.notes.View.{View}
use Rattle.family_table.specs.declared.notes.View.TheVariants.{Has}
use Rattle.family_table.specs.Ends.{AllSoFar}
use Rattle.family_table.specs.Family.{of_cell, knows}
use Rattle.family_table.specs.Places.{place}
use Rattle.family_triple.specs.Places.{triples}
use Rattle.family_triple.specs.Tables.{Done}
use Rattle.family_triple.specs.Words.{writes_to, reads_from}

module _ {T : Type 0} where
  -- what a process has done, in a family of n whose registers opened with this record
  abbrev pub done_by : T → ℕ → Process (TripleSight T) → Doings T
  done_by o n v = doings v.times (writes_to o n v) (reads_from o n v) v.said v.found

  -- process i writes its row and reads its column
  pub record HasCells (n i : ℕ) (v : Process (TripleSight T)) : Type 0 where
    pub row : (j : ℕ) → j < n → j ≢ i → (p : WriterNotes T) × (of_cell Spent (place n i j) v.parts ≡ Writer p)
    pub column : (j : ℕ) → j < n → j ≢ i → (g : ReaderNotes T) × (of_cell Spent (place n j i) v.parts ≡ Reader g)

  -- *Keeps to its plan*: and what it has done is of the plan
  abbrev pub IsPlanned : (Doings T → Type 0) → T → ℕ → ℕ → Process (TripleSight T) → Type 0
  IsPlanned plan o n i v = HasCells n i v × plan (done_by o n v)

  -- by the records' plan; and so of a family's key
  abbrev pub TriplePlan : (T → ℕ → ℕ → ℕ → ℕ → Doings T → Type 0) → T → ℕ → ℕ → ℕ → Process (TripleSight T) → Type 0
  TriplePlan plan o limit n i v = IsPlanned (plan o 1 n limit i) o n i v

  abbrev pub plan_of : (T → ℕ → ℕ → ℕ → ℕ → Doings T → Type 0) → Opened T → ℕ → Process (TripleSight T) → Type 0
  plan_of plan key = TriplePlan plan key.first key.limit key.processes

  -- all processes as they are behind the step that decides a call, which shows them with this seat
  abbrev pub ShowsAll : (T → ℕ → ℕ → ℕ → ℕ → Doings T → Type 0) → Opened T → Me T (View (TripleSight T)) → Type 0
  ShowsAll plan key me = (ps : List (Process (TripleSight T))) → me.0 ≡ Has ps →
      AllSoFar Spent (triples key.processes) (Done key.first) (plan_of plan key) key.processes ps

  -- The swap that makes a write of this record on cell k is of the plan, at any later time; and so is the step that
  -- decides a read there, whatever it answers
  abbrev pub MayPublish : (ℕ → Process (TripleSight T) → Type 0) → Process (TripleSight T) → ℕ → WriterNotes T → T →
      Type 0
  MayPublish Plan v k p x = (t slot : ℕ) (held : List ℕ) → v.clock < t →
      Plan v.who (knows Spent v k (Writer (published p slot x t)) t held)

  abbrev pub MayDecide : (ℕ → Process (TripleSight T) → Type 0) → Process (TripleSight T) → ℕ → ReaderNotes T → Type 0
  MayDecide Plan v k g = (h : ReaderNotes T) (answer : T) (t number : ℕ) (writes : Known T) (held : List ℕ) →
      h.answers ≡ g.answers → h.times ≡ g.times → v.clock < t →
      Plan v.who (knows Spent v k (Reader (answered h answer t number writes)) t held)
