-- A column on its way: what its next read needs.
use Rattle.std.proofs.Common.{◌≡◌, ℕ, ◌-◌, ◌<◌, sym, ap, ◌∙◌, subst}
use Rattle.cell_contract.specs.Plans.{Doings, MayRead, MayReadEach, ReadsSoFar}
use Rattle.cell_contract.specs.Rows.{OneByOne, IsReadFrom, SeesNew}
use Rattle.cell_contract.proofs.Rows.{column_own}
use Rattle.family_triple.specs.declared.family.TripleFamily.{TripleFamily}
use Rattle.family_triple.specs.Seated.{TripleSeat}
use Rattle.family_table.specs.Places.{place}
use Rattle.family_table.specs.Seated.{number_of, clock_of, times_of, said_of, found_of}
use Rattle.family_triple.specs.Seated.{opening_of, processes_of, writes_of, reads_of, IsSeat, doings_of}
use Rattle.family_table.proofs.Plans.{may_read_after, may_read_before, whole_reads}
use Rattle.family_triple.proofs.Rows.{row_room}

module _ {T L : Type 0} (f : TripleFamily T) (fits : T → Type 0) (rises : T → T → Type 0) (sees : L → T → L → Type 0) where
  -- such a read of one process, which is seen where it is new
  abbrev pub Read : ℕ → TripleSeat T × L → TripleSeat T × L → Type 0
  Read = IsReadFrom (IsSeat f) number_of clock_of times_of writes_of reads_of said_of found_of 1 (opening_of f) fits rises (SeesNew sees)

  module _ (start : TripleSeat T) (first : L) where
    -- so many of the others were read
    abbrev pub Column : ℕ → TripleSeat T × L → Type 0
    Column = OneByOne Read (number_of start) (start, first)

    pub column_seat : (count : ℕ) (now : TripleSeat T) (seen : L) → IsSeat f start → Column count (now, seen) →
        IsSeat f now × (number_of now ≡ number_of start)
    column_seat count now seen own r = column_own (IsSeat f) number_of clock_of times_of writes_of reads_of said_of found_of 1
        (opening_of f) fits rises
        (SeesNew sees) (number_of start) (start, first) count (now, seen) r own

    pub column_cell : (count : ℕ) (now : TripleSeat T) (seen : L) → IsSeat f start → Column count (now, seen) → (cell from : ℕ) →
        cell ≡ place start.processes from start.who → cell ≡ place now.processes from now.who
    column_cell count now seen own r cell from at =
        let is = column_seat count now seen own r in
        let n : start.processes ≡ now.processes = own.processes ∙ sym is.0.processes in
        at ∙ ap (λ z. place z from start.who) n ∙ ap (λ z. place now.processes from z) (sym is.1)

    -- what the plan says of the next read
    module _ (plan : ℕ → Doings T → Type 0) (may : MayReadEach (plan start.who) 1 (processes_of f) start.who
        (doings_of start)) (own : IsSeat f start) where
      so_far : (count : ℕ) (now : TripleSeat T × L) → Column count now → OneByOne (ReadsSoFar 1 1) start.who
          (doings_of start) count (doings_of now.0)
      so_far count now r = whole_reads (IsSeat f) number_of clock_of times_of writes_of reads_of said_of found_of 1 (opening_of f) fits
          rises
          (SeesNew sees) start.who (start, first) count now r

      low : start.who < processes_of f
      low = subst (λ z. start.who < z) own.processes (row_room f start own).1

      pub column_may_before : (now : TripleSeat T) (seen : L) (from : ℕ) → Column from (now, seen) → from < start.who →
          MayRead (plan now.who) 1 from (doings_of now)
      column_may_before now seen from r l =
          subst (λ z. MayRead (plan z) 1 from (doings_of now))
          (sym (column_seat from now seen own r).1)
          (may_read_before (plan start.who) 1 (processes_of f) start.who from (doings_of start)
          (doings_of now) may (so_far from (now, seen) r) l low)

      pub column_may_after : (now : TripleSeat T) (seen : L) (from : ℕ) → Column (from - 1) (now, seen) → start.who < from →
          from < processes_of f → MayRead (plan now.who) 1 from (doings_of now)
      column_may_after now seen from r l lf =
          subst (λ z. MayRead (plan z) 1 from (doings_of now))
          (sym (column_seat (from - 1) now seen own r).1)
          (may_read_after (plan start.who) 1 (processes_of f) start.who from (doings_of start)
          (doings_of now) may (so_far (from - 1) (now, seen) r) l lf)
