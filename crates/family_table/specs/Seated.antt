-- The seats and the receipts of processes (this project's own).
use Rattle.std.specs.Prelude.{◌≡◌, ℕ, List, slice_get, Some}
use mathlib.Core.Option.{some}
use lib.ListN.{get_elem?}
use Rattle.family_table.specs.declared.notes.Process.{Process}
use Rattle.family_table.specs.declared.notes.Receipt.{Receipt}
use Rattle.family_table.specs.declared.notes.View.TheVariants.{Has}
use Rattle.family_table.specs.declared.processes.ProcessSeat.{ProcessSeat}
use Rattle.family_table.specs.declared.processes.ProcessReceipt.{ProcessReceipt}
use Rattle.family_table.specs.declared.table.FamilySeat.{FamilySeat}
use Rattle.cell_contract.specs.declared.said.Said.{Said}
use Rattle.cell_contract.specs.declared.said.Found.{Found}
use Rattle.family_table.specs.Views.{process_of, receipt_in}

module _ {T V X : Type 0} where
  -- what the process of a seat knows
  abbrev pub known_by : ProcessSeat T V X → Process V
  known_by s = process_of s.seat.inner.me.0

  abbrev pub number_of : ProcessSeat T V X → ℕ
  number_of s = s.who

  abbrev pub clock_of : ProcessSeat T V X → ℕ
  clock_of s = (known_by s).clock

  abbrev pub times_of : ProcessSeat T V X → List ℕ
  times_of s = (known_by s).times

  abbrev pub said_of : ProcessSeat T V X → List Said
  said_of s = (known_by s).said

  abbrev pub found_of : ProcessSeat T V X → List Found
  found_of s = (known_by s).found

  -- among these processes are those of all of these seats
  abbrev pub AreAmong : List (Process V) → List (ProcessSeat T V X) → Type 0
  AreAmong ps seats = (i : ℕ) (s : ProcessSeat T V X) → slice_get seats i ≡ Some s →
      (a : ℕ) × (get_elem? ps a ≡ some (known_by s))

  -- the seat has the processes of all of these
  abbrev pub HasAll : FamilySeat T V → List (ProcessSeat T V X) → Type 0
  HasAll all seats = (ps : List (Process V)) × (all.inner.me.0 ≡ Has ps) × AreAmong ps seats

  -- the calls so far are shown of processes among which are those of these seats; and those that a seat has
  abbrev pub AllShown : (List (Process V) → Type 0) → List (ProcessSeat T V X) → Type 0
  AllShown done seats = (qs : List (Process V)) × done qs × AreAmong qs seats

  abbrev pub HaveShown : (List (Process V) → Type 0) → List (Process V) → List (ProcessSeat T V X) → Type 0
  HaveShown done ps seats = (qs : List (Process V)) × done qs
      × ((a : ℕ) (p : Process V) → get_elem? ps a ≡ some p → (b : ℕ) × (get_elem? qs b ≡ some p))
      × AreAmong qs seats

module _ {T V : Type 0} where
  -- what a receipt tells
  abbrev pub told_in : ProcessReceipt T V → Receipt V
  told_in t = receipt_in t.seat.inner.me.0

  abbrev pub sender_of : ProcessReceipt T V → ℕ
  sender_of t = t.from

  abbrev pub time_of : ProcessReceipt T V → ℕ
  time_of t = (told_in t).clock
