-- The words of the contract, of the seats of a family of triple buffers (this project's own).
use Rattle.std.specs.Prelude.{◌≡◌, ◌≢◌, ℕ, ◌<◌, ◌≤◌, [], ◌∷◌}
use Rattle.atomic_table.specs.Seated.{TableId}
use Rattle.std.proofs.Common.{arith}
use Rattle.cell_contract.specs.Intervals.{dated}
use Rattle.cell_contract.specs.Running.{snap}
use Rattle.cell_contract.specs.Sights.{receipt_or}
use Rattle.cell_contract.specs.declared.times.Dated.{Dated}
use Rattle.cell_contract.specs.declared.times.Known.{Known}
use Rattle.cell_contract.specs.declared.sight.Sight.TheVariants.{Spent, Told as Tells}
use Rattle.cell_triple.specs.Steps.{TripleSight}
use Rattle.cell_contract.specs.Accesses.{WriteAccesses, ReadAccesses, IsUnused}
use Rattle.family_table.specs.declared.notes.View.TheVariants.{Told, Has}
use Rattle.family_table.specs.Family.{of_cell}
use Rattle.family_table.specs.Places.{place, writer_of}
use Rattle.family_triple.specs.declared.family.TripleFamily.{TripleFamily}
use Rattle.family_triple.specs.declared.family.Slots.{Slots}
use Rattle.family_table.specs.declared.processes.ProcessSeat.{ProcessSeat}
use Rattle.family_table.specs.declared.processes.ProcessReceipt.{ProcessReceipt}
use Rattle.cell_contract.specs.Plans.{AreSoFar, Doings, doings}
use Rattle.family_table.specs.Seated.{known_by, times_of, said_of, found_of, told_in}
use Rattle.family_triple.specs.Words.{writes_to, reads_from, IsAtRest}

pub one_step : 0 < 1
one_step = omega arith

pub one_is_few : 1 ≤ 3
one_is_few = omega arith

module _ (T : Type 0) where
  abbrev pub TripleSeat : Type 0
  TripleSeat = ProcessSeat T (TripleSight T) Slots

  abbrev pub TripleReceipt : Type 0
  TripleReceipt = ProcessReceipt T (TripleSight T)

module _ {T : Type 0} where
  abbrev pub opening_of : TripleFamily T → T
  opening_of f = f.table.rows.inner.shared.key.first

  abbrev pub processes_of : TripleFamily T → ℕ
  processes_of f = f.table.rows.inner.shared.key.processes

  abbrev pub limit_of : TripleFamily T → ℕ
  limit_of f = f.table.rows.inner.shared.key.limit

  abbrev pub writes_of : TripleSeat T → ℕ → WriteAccesses T
  writes_of s = writes_to s.spare s.processes (known_by s)

  abbrev pub reads_of : TripleSeat T → ℕ → ReadAccesses T
  reads_of s = reads_from s.spare s.processes (known_by s)

  abbrev pub doings_of : TripleSeat T → Doings T
  doings_of s = doings (times_of s) (writes_of s) (reads_of s) (said_of s) (found_of s)

  -- the seat has one process of the family, between two calls
  pub record IsSeat (f : TripleFamily T) (s : TripleSeat T) : Type 0 where
    pub table : s.seat.inner.table_id ≡ f.table.rows.inner.shared.table_id
    pub opening : s.spare ≡ opening_of f
    pub processes : s.processes ≡ processes_of f
    pub one : s.seat.inner.me.0 ≡ Has (known_by s ∷ [])
    pub who : (known_by s).who ≡ s.who
    pub rest : IsAtRest s.spare s.processes (known_by s) s.stored.fills s.stored.reads s.seat.inner.me.1

  -- what all processes have done so far, shown by a seat
  abbrev pub SeatShowsAll : (T → ℕ → ℕ → ℕ → ℕ → Doings T → Type 0) → TripleFamily T → TripleSeat T → Type 0
  SeatShowsAll plan f s = AreSoFar (plan (opening_of f) 1 (processes_of f) (limit_of f)) (opening_of f)
      (processes_of f) s.who (times_of s) (writes_of s) (reads_of s) (said_of s) (found_of s)

  -- the record that a receipt names to process j, and all that was written to that one up to then
  abbrev pub naming : TripleReceipt T → ℕ → Dated T
  naming t j = receipt_or (dated t.spare) (of_cell Spent (place t.processes t.from j) (told_in t).parts)

  abbrev pub named_by : TripleReceipt T → ℕ → T
  named_by t j = (naming t j).item

  abbrev pub carried_by : TripleReceipt T → ℕ → Known T
  carried_by t j = (naming t j).writes

  -- the receipt is of a process of the family, and tells each other one of its cell alone
  pub record IsReceipt (f : TripleFamily T) (t : TripleReceipt T) : Type 0 where
    pub table : t.seat.inner.table_id ≡ f.table.rows.inner.shared.table_id
    pub processes : t.processes ≡ processes_of f
    pub inside : t.from < t.processes
    pub one : t.seat.inner.me ≡ (Told (told_in t), [])
    pub row : (j : ℕ) → j < t.processes → j ≢ t.from →
        of_cell Spent (place t.processes t.from j) (told_in t).parts ≡ Tells (snap (naming t j))
    pub elsewhere : (k : ℕ) → writer_of t.processes k ≢ t.from → of_cell Spent k (told_in t).parts ≡ Spent

  -- a seat of a new family of n, of process i
  pub record IsFirst (id : TableId) (n : ℕ) (o : T) (i : ℕ) (s : TripleSeat T) : Type 0 where
    pub table : s.seat.inner.table_id ≡ id
    pub opening : s.spare ≡ o
    pub processes : s.processes ≡ n
    pub who : s.who ≡ i
    pub one : s.seat.inner.me.0 ≡ Has (known_by s ∷ [])
    pub number : (known_by s).who ≡ i
    pub rest : IsAtRest o n (known_by s) s.stored.fills s.stored.reads s.seat.inner.me.1
    pub unused : IsUnused (known_by s).clock (known_by s).times (writes_to o n (known_by s))
        (reads_from o n (known_by s)) (said_of s) (found_of s)
