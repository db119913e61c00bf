-- What one seat is shown of all processes is what all have done so far, by the words of the family.
use Rattle.std.proofs.Common.{◌≡◌, ◌≢◌, ℕ, ◌<◌, List, [], ◌∷◌, length, refl, sym, ap, ◌∙◌, subst}
use mathlib.Core.Option.{some}
use lib.ListN.{get_elem?}
use Rattle.history_core.specs.Registers.{intervals, IsRegular}
use Rattle.cell_contract.specs.Accesses.{ReadAccesses, WriteAccesses}
use Rattle.cell_contract.specs.Ends.{Each}
use Rattle.cell_contract.specs.declared.said.Said.{Said}
use Rattle.cell_contract.specs.declared.said.Found.{Found}
use Rattle.cell_contract.specs.Plans.{AreSoFar, Doings, doings}
use Rattle.cell_contract.specs.declared.sight.Sight.TheVariants.{Spent}
use Rattle.cell_four_slot.specs.Steps.{FourSlotSight}
use Rattle.family_table.specs.declared.notes.Process.{Process}
use Rattle.family_table.specs.Ends.{AllSoFar}
use Rattle.family_table.specs.Left.{AreSoFarWith}
use Rattle.family_table.specs.Places.{place}
use Rattle.family_table.specs.Seated.{AreAmong, known_by, number_of, times_of, said_of, found_of}
use Rattle.family_table.proofs.Numbered.{first_there, found_said, or_none, there as process_there}
use Rattle.family_table.proofs.Places.{place_in}
use Rattle.family_four_slot.specs.declared.family.FourSlotFamily.{FourSlotFamily}
use Rattle.family_four_slot.specs.Places.{four_slots}
use Rattle.family_four_slot.specs.Plans.{done_by, IsPlanned}
use Rattle.family_four_slot.specs.Seated.{FourSlotSeat, opening_of, processes_of, limit_of, writes_of, reads_of, IsSeat, doings_of}
use Rattle.family_four_slot.specs.Tables.{Done}
use Rattle.family_four_slot.specs.Words.{reads_from, writes_to}
use Rattle.family_four_slot.proofs.Calls.{sees_reads, sees_writes}

module _ {T : Type 0} (plan : T → ℕ → ℕ → ℕ → ℕ → Doings T → Type 0) (o : T) (n limit : ℕ) (ps : List (Process (FourSlotSight T)))
    (all : AllSoFar Spent (four_slots n) (Done o) (IsPlanned plan o limit n) n ps) where
  abbrev pub P : Type 0
  P = Process (FourSlotSight T)

  abbrev pub at : ℕ → P
  at i = or_none (get_elem? all.processes i)

  there : (i : ℕ) → i < n → get_elem? all.processes i ≡ some (at i)
  there = process_there Spent (four_slots n) (Done o) (IsPlanned plan o limit n) n ps all

  registers : (i j : ℕ) → i < n → j < n → i ≢ j → IsRegular o (writes_to o n (at i) j).items
      (intervals (writes_to o n (at i) j).times.begins (writes_to o n (at i) j).times.ends) (reads_from o n (at j) i).answers
      (reads_from o n (at j) i).numbers (intervals (reads_from o n (at j) i).times.begins (reads_from o n (at j) i).times.ends)
  registers i j li lj ne =
      let v : P = at i in
      let u : P = at j in
      let who_v : v.who ≡ i = all.numbered i v (there i li) in
      let who_u : u.who ≡ j = all.numbered j u (there j lj) in
      let away : j ≢ i = λ e. ne (sym e) in
      let row = (all.planned i v (there i li)).0.row j lj away in
      let column = (all.planned j u (there j lj)).0.column i li ne in
      let h = (all.cells i j (place n i j) v u (there i li) (there j lj) (place_in n i j li lj away) row.0 column.0 row.1 column.1).0 in
      let w = sees_writes o n v i j row.0 away who_v row.1 in
      let g = sees_reads o n u j i column.0 ne who_u column.1 in
      subst (λ (z : WriteAccesses T × ReadAccesses T). IsRegular o z.0.items (intervals z.0.times.begins z.0.times.ends)
      z.1.answers z.1.numbers (intervals z.1.times.begins z.1.times.ends)) (λ x. (sym w x, sym g x)) h

  abbrev are_so_far : (who : ℕ) (times : List ℕ) (writes : ℕ → WriteAccesses T) (reads : ℕ → ReadAccesses T) (said : List Said)
      (found : List Found) → done_by o n (at who) ≡ doings times writes reads said found →
      ((i : ℕ) → (reads_from o n (at who) i).numbers ≡ (reads i).numbers) →
      AreSoFar (plan o 3 n limit) o n who times writes reads said found
  are_so_far who times writes reads said found known numbered = record {
    steps = all.steps;
    done = λ i. done_by o n (at i);
    schedule = all.within;
    made = λ i l. all.made i (at i) (there i l);
    planned = λ i l. (all.planned i (at i) (there i l)).1;
    finds = found_said Spent (four_slots n) (Done o) (IsPlanned plan o limit n) n ps all;
    known = known;
    numbers = λ i j. (reads_from o n (at j) i).numbers;
    numbered = numbered;
    registers = registers;
  }

-- the process of a seat is that with its number
module _ {T : Type 0} (plan : T → ℕ → ℕ → ℕ → ℕ → Doings T → Type 0) (f : FourSlotFamily T) (ps : List (Process (FourSlotSight T)))
    (all : AllSoFar Spent (four_slots (processes_of f)) (Done (opening_of f)) (IsPlanned plan (opening_of f) (limit_of f) (processes_of f))
    (processes_of f) ps) (s : FourSlotSeat T) (own : IsSeat f s) (a : ℕ) (among : get_elem? ps a ≡ some (known_by s)) where
  abbrev at_number : ℕ → Process (FourSlotSight T)
  at_number = at plan (opening_of f) (processes_of f) (limit_of f) ps all

  mine : at_number (number_of s) ≡ known_by s
  mine = ap at_number (sym own.who) ∙ ap or_none (all.among a (known_by s) among)

  known_of : done_by (opening_of f) (processes_of f) (at_number (number_of s)) ≡ doings_of s
  known_of i = done_by (sym own.opening i) (sym own.processes i) (mine i)

  numbers_of : (i : ℕ) → (reads_from (opening_of f) (processes_of f) (at_number (number_of s)) i).numbers ≡ (reads_of s i).numbers
  numbers_of i j = (reads_from (sym own.opening j) (sym own.processes j) (mine j) i).numbers

module _ {T : Type 0} (plan : T → ℕ → ℕ → ℕ → ℕ → Doings T → Type 0) (f : FourSlotFamily T) (s : FourSlotSeat T) (own : IsSeat f s)
    (all : AllSoFar Spent (four_slots (processes_of f)) (Done (opening_of f)) (IsPlanned plan (opening_of f) (limit_of f) (processes_of f))
    (processes_of f) (known_by s ∷ [])) where
  pub seat_so_far : AreSoFar (plan (opening_of f) 3 (processes_of f) (limit_of f)) (opening_of f) (processes_of f) (number_of s)
      (times_of s) (writes_of s) (reads_of s) (said_of s) (found_of s)
  seat_so_far = are_so_far plan (opening_of f) (processes_of f) (limit_of f) (known_by s ∷ []) all (number_of s) (times_of s) (writes_of s)
      (reads_of s) (said_of s) (found_of s) (known_of plan f (known_by s ∷ []) all s own 0 refl)
      (numbers_of plan f (known_by s ∷ []) all s own 0 refl)

-- several seats are shown together, of which there is one
module _ {T : Type 0} (plan : T → ℕ → ℕ → ℕ → ℕ → Doings T → Type 0) (f : FourSlotFamily T) (seats : List (FourSlotSeat T))
    (some : 0 < length seats) (own : Each (λ i s. IsSeat f s) seats) (ps : List (Process (FourSlotSight T))) (among : AreAmong ps seats)
    (all : AllSoFar Spent (four_slots (processes_of f)) (Done (opening_of f)) (IsPlanned plan (opening_of f) (limit_of f) (processes_of f))
    (processes_of f) ps) where
  pub seats_so_far : AreSoFarWith (plan (opening_of f) 3 (processes_of f) (limit_of f)) (opening_of f) (processes_of f) number_of
      times_of writes_of reads_of said_of found_of seats
  seats_so_far =
      let first = first_there seats some in
      let s : FourSlotSeat T = first.0 in
      let of = among 0 s first.1 in
      record {
        one = s;
        all = are_so_far plan (opening_of f) (processes_of f) (limit_of f) ps all (number_of s) (times_of s) (writes_of s) (reads_of s)
            (said_of s) (found_of s) (known_of plan f ps all s (own 0 s first.1) of.0 of.1)
            (numbers_of plan f ps all s (own 0 s first.1) of.0 of.1);
        each = λ x t e. let b = among x t e in known_of plan f ps all t (own x t e) b.0 b.1;
        numbers = λ x i t e. let b = among x t e in numbers_of plan f ps all t (own x t e) b.0 b.1 i;
      }
