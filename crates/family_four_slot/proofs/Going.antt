-- What the steps of a call need, of a seat that is one of the family's: each step leaves the notes with which the next one goes on.
use Rattle.std.proofs.Common.{◌≡◌, ◌≢◌, ℕ, zero, suc, ◌+◌, ◌*◌, ◌<◌, Bool, List, [], ◌∷◌, length, get_or, set, refl, sym, ap, ◌∙◌, subst}
use Rattle.std.proofs.Common.{arith, ◌/◌, Option, None, Some}
use Rattle.atomic_table.specs.Table.{Me}
use Rattle.four_slot_core.specs.declared.state.Slot.{Slot}
use Rattle.four_slot_core.specs.Events.{bit_number, slot_number}
use Rattle.cell_contract.specs.Accesses.{ReadAccesses}
use Rattle.cell_contract.specs.Running.{held_slots, last_or}
use Rattle.cell_four_slot.proofs.Slots.{bit_low, number_of_slot, slot_low}
use Rattle.cell_four_slot.specs.declared.notes.WriterNotes.{WriterNotes}
use Rattle.cell_four_slot.specs.declared.notes.ReaderNotes.{ReaderNotes}
use Rattle.cell_contract.specs.declared.sight.Sight.TheVariants.{Spent, Writer, Reader}
use Rattle.cell_four_slot.specs.Steps.{FourSlotSight, word_said}
use Rattle.family_four_slot.specs.declared.family.FourSlotFamily.{FourSlotFamily}
use Rattle.family_four_slot.specs.Seated.{FourSlotSeat}
use Rattle.family_table.specs.declared.notes.Process.{Process}
use Rattle.family_table.specs.declared.notes.View.{View}
use Rattle.family_table.specs.declared.notes.View.TheVariants.{Has}
use Rattle.family_table.specs.Family.{of_cell, knows}
use Rattle.family_table.specs.Places.{place}
use Rattle.family_four_slot.specs.Places.{four_slots, word_at}
use Rattle.family_table.specs.Seated.{known_by, number_of}
use Rattle.family_four_slot.specs.Seated.{opening_of, processes_of, writes_of, reads_of, IsSeat}
use Rattle.family_four_slot.specs.Steps.{After}
use Rattle.family_four_slot.specs.Tables.{HasProcess, HasWriter, HasReader}
use Rattle.family_table.specs.Views.{process_of}
use Rattle.family_four_slot.specs.Words.{number_chosen, shown_to, IsAtRest, IsRow, IsColumn}
use Rattle.family_four_slot.proofs.Calls.{sees_reads, sees_writes}
use Rattle.family_table.proofs.Places.{place_in}
use Rattle.family_four_slot.proofs.Places.{bit_word}
use Rattle.family_table.proofs.Slices.{get_set_here, set_long}

-- the word of `latest`, and that of a pair's bit
pub first_word : (cell : ℕ) → 16 * cell + 8 ≡ word_at cell 0
first_word cell = let e : 16 * cell + 8 ≡ 16 * cell + 8 + 0 = omega arith in e

pub pair_word : (cell pair : ℕ) (b : Bool) → pair ≡ bit_number b → 16 * cell + 8 + (2 + pair) ≡ word_at cell (2 + bit_number b)
pair_word cell pair b e = bit_word cell pair ∙ ap (λ z. word_at cell (2 + z)) e

pub pair_low : (b : Bool) → 2 + bit_number b < 4
pair_low b = let l = bit_low b in omega arith

-- of the slot that a seat remembers, the half is what `reading` has
pub half_chosen : (pair slot : ℕ) (ch : Option Slot) → pair ≡ slot / 2 → slot ≡ number_chosen ch → pair ≡ word_said ch
half_chosen pair slot None half is = omega arith
half_chosen pair slot (Some k) half is = let low = bit_low k.index in omega arith

-- a slot of this number is the one that the seat remembers
pub is_chosen : (slot : ℕ) (ch : Option Slot) (k : Slot) → slot ≡ number_chosen ch → slot ≡ slot_number k → ch ≡ Some k
is_chosen slot None k is number = let low = slot_low k in absurd (omega arith)
is_chosen slot (Some j) k is number = ap Some (number_of_slot j k (sym is ∙ number))

-- an element that isn't the default stands there
pub there : (xs : List (List ℕ)) (i a : ℕ) (bs : List ℕ) → a ∷ bs ≡ get_or xs i [] → i < length xs
there [] i a bs e = absurd (empty (sym e)) where
  empty : {a : ℕ} {bs : List ℕ} → [] ≡ a ∷ bs → ⊥
  empty e = cc
there (x ∷ xs) zero a bs e = omega arith
there (x ∷ xs) (suc i) a bs e = let h = there xs i a bs e in omega arith

module _ {T : Type 0} where
  -- after a step on a cell
  pub process_after : (v : Process (FourSlotSight T)) (k t : ℕ) (w : FourSlotSight T) (cs : List (ℕ × T))
      (m : Me T (View (FourSlotSight T))) → k < length v.parts → After v k w t cs m →
      HasProcess m k (knows Spent v k w t (held_slots cs))
  process_after v k t w cs m has a = record {
    one = a.1;
    has = let l : length (set v.parts k w) ≡ length v.parts = set_long v.parts k w in let z : k < length (set v.parts k w) =
        omega arith in z;
    held = ap held_slots (sym a.2);
  }

  pub writer_after : (v : Process (FourSlotSight T)) (k t : ℕ) (p : WriterNotes T) (cs : List (ℕ × T)) (m : Me T (View (FourSlotSight T))) →
      k < length v.parts → After v k (Writer p) t cs m → HasWriter m k (knows Spent v k (Writer p) t (held_slots cs)) p
  writer_after v k t p cs m has a =
      record { process = process_after v k t (Writer p) cs m has a; notes = get_set_here v.parts k (Writer p) Spent has }

  pub reader_after : (v : Process (FourSlotSight T)) (k t : ℕ) (g : ReaderNotes T) (cs : List (ℕ × T)) (m : Me T (View (FourSlotSight T))) →
      k < length v.parts → After v k (Reader g) t cs m → HasReader m k (knows Spent v k (Reader g) t (held_slots cs)) g
  reader_after v k t g cs m has a =
      record { process = process_after v k t (Reader g) cs m has a; notes = get_set_here v.parts k (Reader g) Spent has }

  -- another record is put into the slot
  pub after_filled : (v : Process (FourSlotSight T)) (k t a : ℕ) (w : FourSlotSight T) (x y : T) (cs : List (ℕ × T))
      (m m' : Me T (View (FourSlotSight T))) → After v k w t ((a, y) ∷ cs) m →
      m' ≡ (m.0, (a, x) ∷ cs) → After v k w t ((a, x) ∷ cs) m'
  after_filled v k t a w x y cs m m' h e = (h.0, ap (λ z. z.0) e ∙ h.1, ap (λ z. z.1) e)

  module _ (f : FourSlotFamily T) (s : FourSlotSeat T) (own : IsSeat f s) (j : ℕ) (other : (j < processes_of f) × (j ≢ number_of s)) where
    pub within : j < s.processes
    within = subst (λ z. j < z) (sym own.processes) other.0

    pub apart : j ≢ (known_by s).who
    apart = λ e. other.1 (e ∙ own.who)

    abbrev pub row_at : IsRow s.spare (of_cell Spent (place s.processes (known_by s).who j) (known_by s).parts) (shown_to s.stored j).bits
        (shown_to s.stored j).latest
    row_at = own.rest.row j within apart

    abbrev pub column_at : IsColumn s.spare (place s.processes j (known_by s).who)
        (of_cell Spent (place s.processes j (known_by s).who) (known_by s).parts)
        (get_or s.stored.reads j 0) s.seat.inner.me.1
    column_at = own.rest.column j within apart

    -- the cell that the seat's process writes, by its number
    module _ (cell : ℕ) (at : cell ≡ place s.processes s.who j) where
      pub row_place : cell ≡ place s.processes (known_by s).who j
      row_place = at ∙ ap (λ z. place s.processes z j) (sym own.who)

      row_low : cell < s.processes * s.processes
      row_low = subst (λ z. z < s.processes * s.processes) (sym row_place)
          (place_in s.processes (known_by s).who j own.rest.inside within apart)

      pub row_inside : cell < (four_slots (processes_of f)).cells
      row_inside = subst (λ z. cell < z * z) own.processes row_low

      pub row_long : cell < length (known_by s).parts
      row_long = subst (λ z. cell < z) (sym own.rest.parts) row_low

      pub row_notes : of_cell Spent cell (known_by s).parts ≡ Writer row_at.notes
      row_notes = ap (λ z. of_cell Spent z (known_by s).parts) row_place ∙ row_at.is

      pub row_writer : HasWriter s.seat.inner.me cell (known_by s) row_at.notes
      row_writer = record { process = record { one = own.one; has = row_long; held = own.rest.held }; notes = row_notes }

    pub row_written : (writes_of s j).items ≡ row_at.notes.written
    row_written = ap (λ z. z.items) (sees_writes s.spare s.processes (known_by s) (known_by s).who j row_at.notes apart refl row_at.is)

    -- and the cell that it reads
    module _ (cell : ℕ) (at : cell ≡ place s.processes j s.who) where
      pub column_place : cell ≡ place s.processes j (known_by s).who
      column_place = at ∙ ap (λ z. place s.processes j z) (sym own.who)

      column_low : cell < s.processes * s.processes
      column_low = subst (λ z. z < s.processes * s.processes) (sym column_place)
          (place_in s.processes j (known_by s).who within own.rest.inside (λ e. apart (sym e)))

      pub column_inside : cell < (four_slots (processes_of f)).cells
      column_inside = subst (λ z. cell < z * z) own.processes column_low

      pub column_long : cell < length (known_by s).parts
      column_long = subst (λ z. cell < z) (sym own.rest.parts) column_low

      pub column_notes : of_cell Spent cell (known_by s).parts ≡ Reader column_at.notes
      column_notes = ap (λ z. of_cell Spent z (known_by s).parts) column_place ∙ column_at.is

      pub column_reader : HasReader s.seat.inner.me cell (known_by s) column_at.notes
      column_reader = record { process = record { one = own.one; has = column_long; held = own.rest.held }; notes = column_notes }

    -- the record at hand is the last answer, as contracts see what was read before
    pub column_last : column_at.notes.at_hand.value ≡ last_or (opening_of f) (reads_of s j).answers
    column_last =
        let seen = sees_reads s.spare s.processes (known_by s) (known_by s).who j column_at.notes apart refl column_at.is in
        column_at.last ∙ ap (λ (z : T × ReadAccesses T). last_or z.0 z.1.answers) (λ i. (own.opening i, sym seen i))

  module _ (f : FourSlotFamily T) (s : FourSlotSeat T) (own : IsSeat f s) where
    -- the seat after a call
    pub seat_after : (s' : FourSlotSeat T) (u : Process (FourSlotSight T)) (cs : List (ℕ × T)) →
        s'.seat.inner.table_id ≡ s.seat.inner.table_id → s'.spare ≡ s.spare →
        s'.processes ≡ s.processes → s'.who ≡ s.who → s'.seat.inner.me.0 ≡ Has (u ∷ []) → s'.seat.inner.me.1 ≡ cs →
        u.who ≡ (known_by s).who → IsAtRest s.spare s.processes u s'.stored cs → IsSeat f s'
    seat_after s' u cs table spare processes who me slots same rest =
        let is : u ≡ known_by s' = sym (ap process_of me) in record {
          table = table ∙ own.table;
          opening = spare ∙ own.opening;
          processes = processes ∙ own.processes;
          one = me ∙ ap (λ z. Has (z ∷ [])) is;
          who = ap (λ z. z.who) (sym is) ∙ (same ∙ (own.who ∙ sym who));
          rest = subst (λ (z : T × ℕ × Process (FourSlotSight T) × List (ℕ × T)). IsAtRest z.0 z.1 z.2 s'.stored z.3)
              (λ i. (sym spare i, sym processes i, is i, sym slots i)) rest;
        }
