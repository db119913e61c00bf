-- A row on its way: what its next write needs.
use Rattle.std.proofs.Common.{◌≡◌, ℕ, ◌-◌, ◌<◌, ◌≤◌, sym, subst, arith}
use Rattle.cell_contract.specs.Running.{last_or}
use Rattle.cell_contract.specs.Accesses.{WriteAccesses}
use Rattle.cell_contract.specs.Rows.{OneByOne, IsWriteTo}
use Rattle.cell_contract.proofs.Rows.{not_after, not_before, row_own}
use Rattle.family_triple.specs.declared.family.TripleFamily.{TripleFamily}
use Rattle.family_triple.specs.Seated.{TripleSeat}
use Rattle.family_table.specs.Seated.{number_of, clock_of, times_of, said_of, found_of}
use Rattle.family_triple.specs.Seated.{opening_of, processes_of, writes_of, reads_of, IsSeat, doings_of}
use Rattle.cell_contract.specs.Plans.{Doings, MayWrite, MayWriteEach, WritesSoFar}
use Rattle.family_table.proofs.Plans.{may_write_after, may_write_before, whole_writes}

module _ {T : Type 0} (f : TripleFamily T) (start : TripleSeat T) where
  pub row_room : IsSeat f start → (start.processes ≤ 16) × (start.who < start.processes)
  row_room own =
      let few : processes_of f ≤ 16 = f.table.rows.some.1 in
      let same : start.processes ≡ processes_of f = own.processes in
      (omega arith, subst (λ z. z < start.processes) own.who own.rest.inside)

module _ {T : Type 0} (f : TripleFamily T) (item : T) (start : TripleSeat T) where
  -- the record was written to so many of the others
  abbrev pub Row : ℕ → TripleSeat T → Type 0
  Row = OneByOne (IsWriteTo (IsSeat f) number_of clock_of times_of writes_of reads_of said_of found_of 1 item) (number_of start) start

  pub row_seat : (count : ℕ) (now : TripleSeat T) → IsSeat f start → Row count now → IsSeat f now × (number_of now ≡ number_of start)
  row_seat count now own r =
      row_own (IsSeat f) number_of clock_of times_of writes_of reads_of said_of found_of 1 item (number_of start) start count now r own

  pub row_before : (Rises : T → T → Type 0) (now : TripleSeat T) (to : ℕ) → Row to now → to < start.who →
      Rises (last_or (opening_of f) (writes_of start to).items) item → Rises (last_or (opening_of f) (writes_of now to).items) item
  row_before Rises now to r l h = subst (λ (z : WriteAccesses T). Rises (last_or (opening_of f) z.items) item)
      (sym (not_before (IsSeat f) number_of clock_of times_of writes_of reads_of said_of found_of 1 item (number_of start) start to now r
      l)) h

  pub row_after : (Rises : T → T → Type 0) (now : TripleSeat T) (to : ℕ) → Row (to - 1) now → start.who < to →
      Rises (last_or (opening_of f) (writes_of start to).items) item → Rises (last_or (opening_of f) (writes_of now to).items) item
  row_after Rises now to r l h = subst (λ (z : WriteAccesses T). Rises (last_or (opening_of f) z.items) item)
      (sym (not_after (IsSeat f) number_of clock_of times_of writes_of reads_of said_of found_of 1 item (number_of start) start to now r l))
      h

  -- what the plan says of the next write
  module _ (plan : ℕ → Doings T → Type 0) (may : MayWriteEach (plan start.who) 1 (processes_of f) start.who item
      (doings_of start)) (own : IsSeat f start) where
    so_far : (count : ℕ) (now : TripleSeat T) → Row count now → OneByOne (WritesSoFar 1 1 item) start.who
        (doings_of start) count (doings_of now)
    so_far count now r = whole_writes (IsSeat f) number_of clock_of times_of writes_of reads_of said_of found_of 1 item start.who start
        count now r

    low : start.who < processes_of f
    low = subst (λ z. start.who < z) own.processes (row_room f start own).1

    pub row_may_before : (now : TripleSeat T) (to : ℕ) → Row to now → to < start.who →
        MayWrite (plan now.who) 1 item to (doings_of now)
    row_may_before now to r l = subst (λ z. MayWrite (plan z) 1 item to (doings_of now))
        (sym (row_seat to now own r).1)
        (may_write_before (plan start.who) 1 (processes_of f) start.who to (doings_of start)
        (doings_of now) item may (so_far to now r) l low)

    pub row_may_after : (now : TripleSeat T) (to : ℕ) → Row (to - 1) now → start.who < to → to < processes_of f →
        MayWrite (plan now.who) 1 item to (doings_of now)
    row_may_after now to r l lt = subst (λ z. MayWrite (plan z) 1 item to (doings_of now))
        (sym (row_seat (to - 1) now own r).1)
        (may_write_after (plan start.who) 1 (processes_of f) start.who to (doings_of start)
        (doings_of now) item may (so_far (to - 1) now r) l lt)
