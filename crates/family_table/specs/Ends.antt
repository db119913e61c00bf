-- What a seat knows of the processes that it has: one schedule, the calls of each register whose two processes it has,
-- and that each tag found was said. And what it is shown of all processes (this project's own).
use Rattle.std.specs.Prelude.{◌≡◌, ◌⊎◌, ℕ, ◌<◌, ◌≤◌, List, [], ◌∷◌, length, slice_get, Some}
use mathlib.Core.Option.{some}
use lib.ListN.{get_elem?}
use Rattle.history_core.specs.Schedules.{positions}
use Rattle.atomic_table.specs.Table.{State, Me, Step}
use Rattle.family_table.specs.declared.notes.Process.{Process}
use Rattle.family_table.specs.declared.notes.View.{View}
use Rattle.family_table.specs.declared.notes.View.TheVariants.{Has}
use Rattle.family_table.specs.Layouts.{Layout}
use Rattle.cell_contract.specs.Ends.{WasSaid}
use Rattle.cell_contract.specs.declared.said.Found.{Found}
use Rattle.family_table.specs.Family.{of_cell, says_by, finds_by, FindSaid}

-- `done` is what is so of a register's calls, by what its writer knows of it and what its reader does
pub record AllDone {V : Type 0} (blank : V) (l : Layout) (done : V → V → Type 0) (n : ℕ)
    (ps : List (Process V)) : Type 0 where
  pub steps : List ℕ
  pub within : (x who : ℕ) → slice_get steps x ≡ Some who → who < n
  pub made : (a : ℕ) (p : Process V) → get_elem? ps a ≡ some p → p.times ≡ positions 1 p.who steps
  pub finds : (a x : ℕ) (p : Process V) (f : Found) → get_elem? ps a ≡ some p → slice_get p.found x ≡ Some f →
      (f.who < n) × ((b : ℕ) (q : Process V) → get_elem? ps b ≡ some q → q.who ≡ f.who → WasSaid q.said f)
  pub cells : (a b : ℕ) (p q : Process V) → get_elem? ps a ≡ some p → get_elem? ps b ≡ some q → (k : ℕ) → k < l.cells →
      done (of_cell blank k p.parts) (of_cell blank k q.parts)

-- *All processes* of a family at one moment, whoever has their seats: their steps are one schedule, each is of its
-- plan, each register's calls are so far what `done` says, and each tag found was said. Among them are those that the
-- seat has
pub record AllSoFar {V : Type 0} (blank : V) (l : Layout) (done : V → V → Type 0) (Plan : ℕ → Process V → Type 0)
    (n : ℕ) (ps : List (Process V)) : Type 0 where
  pub steps : List ℕ
  pub within : (x who : ℕ) → slice_get steps x ≡ Some who → who < n
  pub processes : List (Process V)
  pub many : length processes ≡ n
  pub numbered : (i : ℕ) (v : Process V) → get_elem? processes i ≡ some v → v.who ≡ i
  pub made : (i : ℕ) (v : Process V) → get_elem? processes i ≡ some v → v.times ≡ positions 1 i steps
  pub planned : (i : ℕ) (v : Process V) → get_elem? processes i ≡ some v → Plan i v
  pub cells : (i j k : ℕ) (v w : Process V) → get_elem? processes i ≡ some v → get_elem? processes j ≡ some w →
      k < l.cells → done (of_cell blank k v.parts) (of_cell blank k w.parts)
  pub finds : FindSaid processes
  pub among : (a : ℕ) (p : Process V) → get_elem? ps a ≡ some p → get_elem? processes p.who ≡ some p

-- a step that changes nothing shows all processes, in a family of so many that opened with this record, by this limit
abbrev pub shows_all : {T V : Type 0} → V → (ℕ → Layout) → (T → V → V → Type 0) → (T → ℕ → ℕ → ℕ → Process V → Type 0) →
    List T → ℕ → ℕ → Step T → Me T (View V) → ℕ → Me T (View V) → Type 0
shows_all blank layout done plan firsts n limit st m found m' = (m' ≡ m)
    × ((o : _) (ps : List (Process _)) → firsts ≡ o ∷ [] → m.0 ≡ Has ps →
    AllSoFar blank (layout n) (done o) (plan o limit n) n ps)

-- a step that changes nothing shows the calls of the processes that the seat has, in a family of so many
-- that opened with this record
abbrev pub shows : {T V : Type 0} → V → (ℕ → Layout) → (T → V → V → Type 0) → List T → ℕ → Step T → Me T (View V) → ℕ →
    Me T (View V) → Type 0
shows blank layout done firsts n st m found m' = (m' ≡ m)
    × ((o : _) (ps : List (Process _)) → firsts ≡ o ∷ [] → m.0 ≡ Has ps → AllDone blank (layout n) (done o) n ps)

-- one register shows its calls, by the views of its two processes
abbrev pub CellEnds : {T V : Type 0} → (ℕ → State T V → Type 0) → (V → V → Type 0) → Type 0
CellEnds {T} {V} Rule done = (now : ℕ) (s : State T V) (i j : ℕ) (v w : V) → Rule now s → get_elem? s.views i ≡ some v →
    get_elem? s.views j ≡ some w → done v w

-- all processes as they are behind a step, in a family of so many that opened with this record, by this limit; and
-- what the step tells, and these
abbrev pub shows_behind : {T V : Type 0} → V → (ℕ → Layout) → (T → V → V → Type 0) →
    (T → ℕ → ℕ → ℕ → Process V → Type 0) → List T → ℕ → ℕ → Me T (View V) → Type 0
shows_behind blank layout done plan firsts n limit m' = (o : _) (ps : List (Process _)) →
    firsts ≡ o ∷ [] → m'.0 ≡ Has ps → AllSoFar blank (layout n) (done o) (plan o limit n) n ps

abbrev pub tells_and_shows : {T V : Type 0} → V → (ℕ → Layout) → (T → V → V → Type 0) →
    (T → ℕ → ℕ → ℕ → Process V → Type 0) → List T → ℕ → ℕ → (Step T → Me T (View V) → ℕ → Me T (View V) → Type 0) →
    Step T → Me T (View V) → ℕ → Me T (View V) → Type 0
tells_and_shows blank layout done plan firsts n limit then st m found m' =
    then st m found m' × shows_behind blank layout done plan firsts n limit m'

-- what the store of a tag tells its process, and what a look at the word of process `from` tells: if it finds this tag
-- or a greater one, and not 0, it is a step of the schedule
abbrev pub says : {T V : Type 0} → Step T → Me T (View V) → ℕ → Me T (View V) → Type 0
says {T} {V} st m n m' = (v : Process V) → m.0 ≡ Has (v ∷ []) → m' ≡ (Has (says_by v st.first ∷ []), m.1)

abbrev pub Finds : {T V : Type 0} → ℕ → ℕ → Process V → List (ℕ × T) → Me T (View V) → Type 0
Finds from tag v cs m = (t : ℕ) × (v.clock < t) × (m ≡ (Has (finds_by v from tag t ∷ []), cs))

abbrev pub looks : {T V : Type 0} → ℕ → ℕ → Step T → Me T (View V) → ℕ → Me T (View V) → Type 0
looks {T} {V} from tag st m n m' = (v : Process V) → m.0 ≡ Has (v ∷ [])
    → (0 < n → tag ≤ n → Finds from tag v m.1 m') × (n < tag ⊎ n ≡ 0 → m' ≡ m)
