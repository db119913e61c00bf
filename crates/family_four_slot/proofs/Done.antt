-- What a whole call makes of a seat, by what its three steps told.
use Rattle.std.proofs.Common.{◌≡◌, ◌≢◌, ℕ, ◌<◌, ◌≤◌, arith, length, not, Bool, List, [], ◌∷◌, ◌++◌, set, refl, sym, ap, ◌∙◌, subst}
use Rattle.atomic_table.specs.Table.{Me}
use Rattle.four_slot_core.specs.Events.{bit_number, slot_number, slot_with}
use Rattle.cell_contract.specs.Running.{held_slots, IsAnswer}
use Rattle.cell_four_slot.specs.declared.notes.WriterNotes.{WriterNotes}
use Rattle.cell_four_slot.specs.declared.notes.ReaderNotes.{ReaderNotes}
use Rattle.cell_contract.specs.declared.sight.Sight.TheVariants.{Spent, Writer, Reader}
use Rattle.cell_four_slot.specs.Steps.{FourSlotSight, begun_with, stored_by, finished_with, asked_by, said_with, got_by, bit_words}
use Rattle.cell_contract.proofs.ListLaws.{last_snoc}
use Rattle.cell_contract.specs.Accesses.{IsAccess, IsReadAccess, IsWriteAccess, KeepsEach, KeepsOthers, ReadAccesses}
use Rattle.family_four_slot.specs.declared.family.FourSlotFamily.{FourSlotFamily}
use Rattle.family_four_slot.specs.Seated.{FourSlotSeat}
use Rattle.family_four_slot.specs.declared.family.Shown.{Shown}
use Rattle.family_four_slot.specs.declared.family.Stored.{Stored}
use Rattle.family_table.specs.declared.notes.Process.{Process}
use Rattle.family_table.specs.declared.notes.View.{View}
use Rattle.family_table.specs.declared.notes.View.TheVariants.{Has}
use Rattle.family_table.specs.Family.{knows}
use Rattle.family_table.specs.Places.{place}
use Rattle.family_four_slot.specs.Access.{HasLooked}
use Rattle.family_four_slot.specs.Places.{slot_at}
use Rattle.family_four_slot.specs.Steps.{has_asked, has_said}
use Rattle.family_table.specs.Seated.{known_by, number_of, clock_of, times_of, said_of, found_of}
use Rattle.family_four_slot.specs.Seated.{opening_of, processes_of, writes_of, reads_of, IsSeat}
use Rattle.family_four_slot.specs.Words.{none_shown, writes_to, reads_from, IsAtRest}
use Rattle.family_table.specs.Views.{process_of}
use Rattle.family_four_slot.proofs.Calls.{a_write, a_read, sees_reads}
use Rattle.family_four_slot.proofs.Going.{within, apart, row_at, row_place, row_notes, column_at, column_place, column_notes, seat_after}
use Rattle.family_table.proofs.Slices.{get_set_here, get_set_else, set_long}
use Rattle.family_four_slot.proofs.Rests.{IsNewRow, IsNewColumn}

module _ {T : Type 0} where
  -- one write more to process j, and one read more from it
  pub record Wrote (f : FourSlotFamily T) (s s' : FourSlotSeat T) (j : ℕ) (x : T) : Type 0 where
    pub own : IsSeat f s' × (s'.who ≡ s.who)
    pub access : IsAccess 3 (clock_of s) (clock_of s') (times_of s) (times_of s') (writes_of s j).times (writes_of s' j).times
    pub written : IsWriteAccess (writes_of s j) (writes_of s' j) x
    pub others : KeepsOthers j (writes_of s) (writes_of s') × KeepsEach (reads_of s) (reads_of s')
    pub tags : (said_of s' ≡ said_of s) × (found_of s' ≡ found_of s)

  pub record HasRead (f : FourSlotFamily T) (s s' : FourSlotSeat T) (j : ℕ) (x : T) : Type 0 where
    pub own : IsSeat f s' × (s'.who ≡ s.who)
    pub access : IsAccess 3 (clock_of s) (clock_of s') (times_of s) (times_of s') (reads_of s j).times (reads_of s' j).times
    pub answer : IsReadAccess (opening_of f) (reads_of s j) (reads_of s' j) x
    pub others : KeepsOthers j (reads_of s) (reads_of s') × KeepsEach (writes_of s) (writes_of s')
    pub tags : (said_of s' ≡ said_of s) × (found_of s' ≡ found_of s)

  module _ (f : FourSlotFamily T) (s : FourSlotSeat T) (own : IsSeat f s) (j : ℕ) (other : (j < processes_of f) × (j ≢ number_of s))
      (cell : ℕ) where
    module _ (at : cell ≡ place s.processes s.who j) (b : Bool) (x : T) (a c d count : ℕ) (h1 h2 : List ℕ) where
      abbrev p : WriterNotes T
      p = (row_at f s own j other).notes

      abbrev q1 : WriterNotes T
      q1 = begun_with p b x a

      abbrev q2 : WriterNotes T
      q2 = stored_by q1 c

      abbrev after_write : List ℕ → Process (FourSlotSight T)
      after_write held = knows Spent (knows Spent (knows Spent (known_by s) cell (Writer q1) a h1) cell (Writer q2) c h2) cell
          (Writer (finished_with q2 count d)) d held

      pub wrote : (bits : List ℕ) (pair : ℕ) (cs : List (ℕ × T)) (s' : FourSlotSeat T) → (known_by s).clock < a → a < c → c < d →
          cs ≡ s.seat.inner.me.1 → s'.seat.inner.me.0 ≡ Has (after_write (held_slots cs) ∷ []) → s'.seat.inner.me.1 ≡ cs →
          s'.seat.inner.table_id ≡ s.seat.inner.table_id → s'.spare ≡ s.spare → s'.processes ≡ s.processes → s'.who ≡ s.who →
          s'.stored ≡ record s.stored { shown = set s.stored.shown j (record { bits = bits; latest = pair }) } →
          bit_words q2.remembered ≡ bits → pair ≡ bit_number (not b) → Wrote f s s' j x
      wrote bits pair cs s' la lc ld same me slots table spare processes who kept is_bits is_pair =
          let o : T = s.spare in
          let n : ℕ = s.processes in
          let v : Process (FourSlotSight T) = known_by s in
          let row = row_at f s own j other in
          let old : Stored = s.stored in
          let shown : Shown = record { bits = bits; latest = pair } in
          let new : Stored = record old { shown = set old.shown j shown } in
          let many : n ≤ length old.shown = own.rest.long.0 in
          let low : j < n = within f s own j other in
          let kept_row : IsNewRow old new j (bit_words q2.remembered) (bit_number (not b)) = record {
            here = let e = get_set_here old.shown j shown none_shown (let z : j < length old.shown = omega arith in z) in
                (is_bits ∙ sym (ap (λ (z : Shown). z.bits) e), ap (λ (z : Shown). z.latest) e ∙ is_pair);
            others = λ i ne. get_set_else old.shown j i shown none_shown ne;
            long = set_long old.shown j shown;
            reads = refl;
          } in
          let did = a_write o n v old new s.seat.inner.me.1 j p b x a c d count h1 h2 cell (row_place f s own j other cell at)
          (within f s own j other) (apart f s own j other) own.rest (row_notes f s own j other cell at) row.opened la lc ld
          kept_row (last_snoc o p.written x) in
          let u : Process (FourSlotSight T) = after_write (held_slots s.seat.inner.me.1) in
          let now : s'.seat.inner.me.0 ≡ Has (u ∷ []) = me ∙ ap (λ zs. Has (after_write (held_slots zs) ∷ [])) same in
          let is : u ≡ known_by s' = sym (ap process_of now) in
          let all : (T × ℕ × Process (FourSlotSight T)) → Type 0 = λ z.
          IsAccess 3 v.clock z.2.clock v.times z.2.times (writes_to o n v j).times (writes_to z.0 z.1 z.2 j).times
          × IsWriteAccess (writes_to o n v j) (writes_to z.0 z.1 z.2 j) x
          × KeepsOthers j (writes_to o n v) (writes_to z.0 z.1 z.2) × KeepsEach (reads_from o n v) (reads_from z.0 z.1 z.2) in
          let h = subst all (λ i. (sym spare i, sym processes i, is i)) (did.1, did.2, did.3, did.4) in record {
            own = (
              seat_after f s own s' u s.seat.inner.me.1 table spare processes who now (slots ∙ same) refl
                  (subst (λ z. IsAtRest o n u z s.seat.inner.me.1) (sym kept) did.0),
              who,
            );
            access = h.0;
            written = h.1;
            others = (h.2, h.3);
            tags = (ap (λ z. z.said) (sym is), ap (λ z. z.found) (sym is));
          }

    module _ (at : cell ≡ place s.processes j s.who) where
      -- an answer, as contracts see what was read before
      pub is_answer : (fits : T → Type 0) (rises : T → T → Type 0) (x : T) →
          let g = (column_at f s own j other).notes in
          IsAnswer fits rises g.opening.value g.answers g.told x →
          IsAnswer fits rises (opening_of f) (reads_of s j).answers (reads_of s j).told x
      is_answer fits rises x h =
          let column = column_at f s own j other in
          let seen = sees_reads s.spare s.processes (known_by s) (known_by s).who j column.notes (apart f s own j other) refl column.is in
          subst (λ (z : T × ReadAccesses T). IsAnswer fits rises z.0 z.1.answers z.1.told x)
          (λ i. ((column.opened ∙ own.opening) i, sym seen i)) h

      -- a whole read
      pub has_read : (fits : T → Type 0) (rises : T → T → Type 0) (m : Me T (View (FourSlotSight T))) (slot : ℕ) (moved : Bool)
          (s' : FourSlotSeat T) →
          (h : HasLooked fits rises cell (known_by s) (column_at f s own j other).notes s.seat.inner.me m slot moved) →
          s'.seat.inner.me ≡ m → s'.seat.inner.table_id ≡ s.seat.inner.table_id → s'.spare ≡ s.spare → s'.processes ≡ s.processes →
          s'.who ≡ s.who → s'.stored ≡ record s.stored { reads = set s.stored.reads j slot } → HasRead f s s' j h.answer
      has_read fits rises m slot moved s' h me table spare processes who kept =
          let o : T = s.spare in
          let n : ℕ = s.processes in
          let v : Process (FourSlotSight T) = known_by s in
          let column = column_at f s own j other in
          let g : ReaderNotes T = column.notes in
          let g2 : ReaderNotes T = said_with (asked_by g h.pair h.asked) h.count h.said in
          let v2 : Process (FourSlotSight T) =
          has_said (has_asked v cell g h.pair h.asked s.seat.inner.me.1) cell (asked_by g h.pair h.asked) h.count h.said
          (h.before ++ h.behind) in
          let taken : ℕ → List (ℕ × T) = λ z. (slot_at cell z, h.answer) ∷ (h.before ++ h.behind) in
          let all_slots : List (ℕ × T) = taken (slot_number (slot_with h.pair h.index)) in
          let after_read : List (ℕ × T) → Process (FourSlotSight T) =
          λ cs. knows Spent v2 cell (Reader (got_by g2 h.index h.answer h.took h.number h.writes)) h.took (held_slots cs) in
          let u : Process (FourSlotSight T) = after_read all_slots in
          let old : Stored = s.stored in
          let new : Stored = record old { reads = set old.reads j slot } in
          let many : n ≤ length old.reads = own.rest.long.1 in
          let low : j < n = within f s own j other in
          let kept_column : IsNewColumn old new j (slot_number (slot_with h.pair h.index)) = record {
            here = get_set_here old.reads j slot 0 (let z : j < length old.reads = omega arith in z) ∙ h.slot_is;
            others = λ i ne. get_set_else old.reads j i slot 0 ne;
            long = set_long old.reads j slot;
            shown = refl;
          } in
          let did = a_read o n v old new h.before h.behind j g h.pair h.answer h.asked h.said h.took h.number h.count h.index h.writes
          (held_slots s.seat.inner.me.1) (held_slots (h.before ++ h.behind)) cell (column_place f s own j other cell at)
          (within f s own j other) (apart f s own j other) (subst (λ zs. IsAtRest o n v old zs) h.had own.rest)
          (column_notes f s own j other cell at) column.opened h.later.0 h.later.1 h.after.0 h.did h.heeds kept_column in
          let now : s'.seat.inner.me.0 ≡ Has (u ∷ []) =
          ap (λ z. z.0) me ∙ (h.after.1 ∙ ap (λ z. Has (after_read (taken z) ∷ [])) h.slot_is) in
          let slots : s'.seat.inner.me.1 ≡ all_slots = ap (λ z. z.1) me ∙ (h.after.2 ∙ ap taken h.slot_is) in
          let is : u ≡ known_by s' = sym (ap process_of now) in
          let all : (T × ℕ × Process (FourSlotSight T)) → Type 0 = λ z.
          IsAccess 3 v.clock z.2.clock v.times z.2.times (reads_from o n v j).times (reads_from z.0 z.1 z.2 j).times
          × IsReadAccess o (reads_from o n v j) (reads_from z.0 z.1 z.2 j) h.answer
          × KeepsOthers j (reads_from o n v) (reads_from z.0 z.1 z.2) × KeepsEach (writes_to o n v) (writes_to z.0 z.1 z.2) in
          let seen = subst all (λ i. (sym spare i, sym processes i, is i)) (did.1, did.2, did.3, did.4) in record {
            own = (
              seat_after f s own s' u all_slots table spare processes who now slots refl
                  (subst (λ z. IsAtRest o n u z all_slots) (sym kept) did.0),
              who,
            );
            access = seen.0;
            answer = subst (λ z. IsReadAccess z (reads_of s j) (reads_of s' j) h.answer) own.opening seen.1;
            others = (seen.2, seen.3);
            tags = (ap (λ z. z.said) (sym is), ap (λ z. z.found) (sym is));
          }
