-- A family of cells in one table, so that all of them have one time. One seat is that of a process: its view has a
-- clock and, for each cell, what the process knows of it (this project's own).
use Rattle.std.specs.Prelude.{◌≡◌, ◌≢◌, ℕ, ◌+◌, ◌*◌, ◌<◌, ◌≤◌, max, nat_eq, cond, List, [], ◌∷◌, ◌++◌, map}
use Rattle.std.specs.Prelude.{length, slice_get, Some, slice_index}
use Rattle.std.specs.Prelude.{slice_index_or, slice_set}
use mathlib.Core.Option.{Option, some, none}
use lib.ListN.{get_elem?}
use Rattle.history_core.specs.Schedules.{positions}
use Rattle.cell_contract.specs.Acts.{Proper}
use Rattle.cell_contract.specs.Running.{held_slots, last_or}
use Rattle.cell_contract.specs.Ends.{WasSaid}
use Rattle.cell_contract.specs.declared.said.Said.{Said}
use Rattle.cell_contract.specs.declared.said.Found.{Found}
use Rattle.family_table.specs.declared.notes.Process.{Process}
use Rattle.family_table.specs.declared.notes.Receipt.{Receipt}
use Rattle.family_table.specs.declared.notes.View.{View}
use Rattle.family_table.specs.declared.notes.View.TheVariants.{Told, Has}
use Rattle.family_table.specs.Layouts.{Layout, said_at, EachOf, gather, shift, IsInCell, Distinct, Disjoint, Out}
use Rattle.atomic_table.specs.Table.{State, Me, Act, carried_after, Valid, stepped}

-- f of each, added up
abbrev pub total : {A : Type 0} → (A → ℕ) → List A → ℕ
total f [] = 0
total f (x ∷ xs) = f x + total f xs

module _ {V : Type 0} (blank : V) where
  -- what is known of cell k
  abbrev pub of_cell : ℕ → List V → V
  of_cell k parts = slice_index_or parts k blank

  -- what a process knows after a step on cell k at a time, with which its seat has these slots
  abbrev pub knows : Process V → ℕ → V → ℕ → List ℕ → Process V
  knows v k w t held =
      record v { clock = t; times = v.times ++ t ∷ []; held = held; parts = slice_set v.parts k w }

  module _ {S : Type 0} (l : Layout) where
    -- cell k as a table of its own: its views are those of the processes by their numbers, and then the receipts
    abbrev pub cell : ℕ → List ℕ → List (Option S) → List (Process V) → List (Receipt V) → State S V
    cell k words homes processes receipts = record {
      words = gather (l.word k) l.cell_words 0 words;
      homes = gather (l.slot k) l.cell_slots none homes;
      views = map (λ (p : Process V). of_cell k p.parts) processes
          ++ map (λ (r : Receipt V). of_cell k r.parts) receipts;
    }

module _ {V : Type 0} where
  -- how often a view has what this process knows
  abbrev pub holders : ℕ → View V → ℕ
  holders who (Told r) = 0
  holders who (Has ps) = total (λ (p : Process V). cond (nat_eq p.who who) 1 0) ps

  -- a view is that of one of the receipts, or of some of the processes
  abbrev pub Shows : List (Process V) → List (Receipt V) → View V → Type 0
  Shows processes receipts (Told r) = IsInCell r receipts
  Shows processes receipts (Has ps) = EachOf (λ (p : Process V). get_elem? processes p.who ≡ some p) ps

-- the last of these tags, or 0
abbrev pub last_said : List Said → ℕ
last_said said = last_or 0 (map (λ (s : Said). s.tag) said)

module _ {V : Type 0} where
  -- what a process knows once it has said a tag, and once it has found another one to have said a tag, at a time
  abbrev pub says_by : Process V → ℕ → Process V
  says_by v tag = record v { said = v.said ++ record { tag = tag; time = v.clock } ∷ [] }

  abbrev pub finds_by : Process V → ℕ → ℕ → ℕ → Process V
  finds_by v from tag t = record v {
    clock = t;
    times = v.times ++ t ∷ [];
    found = v.found ++ record { who = from; tag = tag; time = t } ∷ [];
  }

  -- each tag that one of these found was said before by another one
  abbrev pub FindSaid : List (Process V) → Type 0
  FindSaid processes = (i x : ℕ) (v : Process V) (f : Found) → get_elem? processes i ≡ some v →
      slice_get v.found x ≡ Some f → (w : Process V) × (get_elem? processes f.who ≡ some w) × WasSaid w.said f

  -- *The words of tags*, one of each process, behind those of all cells: each has the last tag that its process said.
  -- No tag was said later than now
  pub record AreSaid (l : Layout) (now : ℕ) (words : List ℕ) (processes : List (Process V)) : Type 0 where
    pub last : (i : ℕ) (v : Process V) → get_elem? processes i ≡ some v →
        slice_index_or words (said_at l i) 0 ≡ last_said v.said
    pub early : (i y : ℕ) (v : Process V) (s : Said) → get_elem? processes i ≡ some v → slice_get v.said y ≡ Some s →
        s.time ≤ now
    pub finds : FindSaid processes

-- The rule of a family, of a cell's own rule at a time: of each cell it holds up to the one time, and no process knows
-- of a later one. The steps made are a schedule, which names the process of each: a process's times are the positions
-- of its steps there, from 1 on. Each process keeps to its plan, whoever has its seat. The words of tags lie behind
-- those of the cells
module _ {S V : Type 0} (blank : V) (l : Layout) (Rule : ℕ → State S V → Type 0) (Plan : ℕ → Process V → Type 0) where
  pub record FamilyRule (n : ℕ) (s : State S (View V)) : Type 0 where
    pub now : ℕ
    pub processes : List (Process V)
    pub receipts : List (Receipt V)
    pub many : length processes ≡ n
    pub sized : (length s.words ≡ l.words + 8 * n) × (length s.homes ≡ l.slots)
    pub cells : (k : ℕ) → k < l.cells → Rule now (cell blank l k s.words s.homes processes receipts)
    pub numbered : (i : ℕ) (v : Process V) → get_elem? processes i ≡ some v → v.who ≡ i
    pub clocks : (i : ℕ) (v : Process V) → get_elem? processes i ≡ some v → v.clock ≤ now
    pub told : (r : Receipt V) → IsInCell r receipts → r.clock ≤ now
    -- the schedule
    pub steps : List ℕ
    pub long : now ≡ length steps
    pub within : (x who : ℕ) → slice_get steps x ≡ Some who → who < n
    pub made : (i : ℕ) (v : Process V) → get_elem? processes i ≡ some v → v.times ≡ positions 1 i steps
    -- a slot that a process has is out, and with no other one
    pub away : (i : ℕ) (v : Process V) → get_elem? processes i ≡ some v → Out s.homes v.held × Distinct v.held
    pub apart : (i j : ℕ) (u v : Process V) → get_elem? processes i ≡ some u →
        get_elem? processes j ≡ some v → i ≢ j → Disjoint u.held v.held
    -- the seats
    pub shows : (j : ℕ) (x : View V) → get_elem? s.views j ≡ some x → Shows processes receipts x
    pub once : (who : ℕ) → total (holders who) s.views ≤ 1
    -- the tags
    pub tags : AreSaid l now s.words processes
    -- the plans
    pub planned : (i : ℕ) (v : Process V) → get_elem? processes i ≡ some v → Plan i v

module _ {S V : Type 0} (Rule : ℕ → State S V → Type 0) where
  -- a step is allowed on one cell alone, at any time later than all before
  abbrev pub CellAllows : ℕ → Me S V → ℕ → (ℕ → ℕ) → (ℕ → ℕ → Me S V → Type 0) → Type 0
  CellAllows id me i f then =
      (now t : ℕ) → now < t → (s : State S V) → Rule now s → get_elem? s.views id ≡ some me.0
      → (w : V) × (a : Act S) × Proper me.1 a × Valid s.homes me.1 a
      × Rule t (stepped s i (f (slice_index s.words i)) id me.1 w a)
      × then t (slice_index s.words i) (w, carried_after me.1 a)

module _ {S V : Type 0} (blank : V) (slot : ℕ → ℕ → ℕ) where
  -- what a step on cell k tells the process: its time, which is later than all that the process knew of, and what the
  -- cell's step tells. The seat had the slots `cs` of the cell between `before` and `behind`
  abbrev pub StepTells : ℕ → Process V → List (ℕ × S) → List (ℕ × S) → (ℕ → ℕ → Me S V → Type 0) → ℕ →
      Me S (View V) → Type 0
  StepTells k v before behind then n m =
      (t : ℕ) × (w : V) × (c : List (ℕ × S)) × (v.clock < t) × then t n (w, c)
      × (m.0 ≡ Has (knows blank v k w t (held_slots m.1) ∷ [])) × (m.1 ≡ before ++ (shift (slot k) c ++ behind))

-- What a receipt tells, and what a process knows once it has learnt it. `receipt_for` and
-- `hears_of` are those of one cell
module _ {V : Type 0} where
  abbrev pub heard_parts : (V → V → V) → List V → List V → List V
  heard_parts hears [] ws = []
  heard_parts hears (v ∷ vs) [] = v ∷ vs
  heard_parts hears (v ∷ vs) (w ∷ ws) = hears v w ∷ heard_parts hears vs ws

  abbrev pub receipt_of : (V → V) → Process V → Receipt V
  receipt_of receipt v = record { clock = v.clock; parts = map receipt v.parts }

  abbrev pub heard_by : (V → V → V) → Process V → Receipt V → Process V
  heard_by hears v r = record v { clock = max v.clock r.clock; parts = heard_parts hears v.parts r.parts }

-- of one cell: a process at rest tells, and learns a receipt
module _ {S V : Type 0} (Rule : ℕ → State S V → Type 0) (Idle : V → Type 0) where
  abbrev pub CellTells : (V → V) → Type 0
  CellTells receipt = (now : ℕ) (s : State S V) (id : ℕ) (v : V) → Rule now s → get_elem? s.views id ≡ some v → Idle v →
      Rule now (record { words = s.words; homes = s.homes; views = s.views ++ receipt v ∷ [] })

  abbrev pub CellHears : (V → V → V) → Type 0
  CellHears hears = (now : ℕ) (s : State S V) (id other : ℕ) (v w : V) → Rule now s → get_elem? s.views id ≡ some v →
      get_elem? s.views other ≡ some w → id ≢ other → Idle v →
      Rule now (record { words = s.words; homes = s.homes; views = slice_set s.views id (hears v w) })
