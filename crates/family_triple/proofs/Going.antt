-- What the steps of a call need, of a seat that is one of the family's, and what a whole call makes of it.
use Rattle.std.proofs.Common.{◌≡◌, ◌≢◌, Bool, ℕ, ◌+◌, ◌-◌, ◌*◌, ◌<◌, List, [], ◌∷◌, ◌++◌, length, get_or, set, refl, sym, ap, ◌∙◌}
use Rattle.std.proofs.Common.{subst, arith}
use lib.ListN.{get_elem?}
use mathlib.Core.Option.{some}
use Rattle.atomic_table.specs.Table.{Me}
use Rattle.cell_contract.specs.Running.{held_slots, IsAnswer, last_or}
use Rattle.cell_contract.specs.declared.sight.Sight.TheVariants.{Spent, Writer, Reader}
use Rattle.cell_triple.specs.declared.notes.WriterNotes.{WriterNotes}
use Rattle.cell_triple.specs.declared.notes.ReaderNotes.{ReaderNotes}
use Rattle.cell_triple.specs.Steps.{TripleSight, published, answered}
use Rattle.cell_contract.specs.Accesses.{IsAccess, IsReadAccess, IsWriteAccess, KeepsEach, KeepsOthers, ReadAccesses}
use Rattle.cell_contract.specs.Plans.{Doings, MayRead, MayWrite}
use Rattle.cell_contract.proofs.ListLaws.{last_snoc}
use Rattle.family_table.specs.declared.notes.Process.{Process}
use Rattle.family_table.specs.declared.notes.View.{View}
use Rattle.family_table.specs.declared.notes.View.TheVariants.{Has}
use Rattle.family_table.specs.Family.{of_cell, knows}
use Rattle.family_table.specs.Places.{place}
use Rattle.family_table.specs.Views.{process_of}
use Rattle.family_table.proofs.Places.{place_in}
use Rattle.family_table.proofs.Slices.{get_set_here, get_set_else, set_long}
use Rattle.family_triple.specs.declared.family.TripleFamily.{TripleFamily}
use Rattle.family_triple.specs.Seated.{TripleSeat}
use Rattle.family_triple.specs.Access.{HasLooked}
use Rattle.family_triple.specs.Places.{among, triples, slot_at}
use Rattle.family_table.specs.Seated.{known_by, number_of, clock_of, times_of, said_of, found_of}
use Rattle.family_triple.specs.Plans.{done_by, plan_of, HasCells, MayDecide, MayPublish, TriplePlan}
use Rattle.family_triple.specs.Seated.{opening_of, processes_of, limit_of, writes_of, reads_of, IsSeat, doings_of}
use Rattle.family_triple.specs.Tables.{IsRotated}
use Rattle.family_triple.specs.Words.{writes_to, reads_from, IsAtRest, IsRow, IsColumn}
use Rattle.family_triple.proofs.Calls.{sees_writes, sees_reads, a_write, a_read}
use Rattle.family_triple.proofs.Plans.{may_decide, may_publish}
use Rattle.family_triple.proofs.Rests.{Replaced, rest_write, rest_read}

module _ {T : Type 0} where
  -- one write more to process j, and one read more from it
  pub record Wrote (f : TripleFamily T) (s s' : TripleSeat T) (j : ℕ) (x : T) : Type 0 where
    pub own : IsSeat f s' × (s'.who ≡ s.who)
    pub access : IsAccess 1 (clock_of s) (clock_of s') (times_of s) (times_of s') (writes_of s j).times (writes_of s' j).times
    pub written : IsWriteAccess (writes_of s j) (writes_of s' j) x
    pub others : KeepsOthers j (writes_of s) (writes_of s') × KeepsEach (reads_of s) (reads_of s')
    pub tags : (said_of s' ≡ said_of s) × (found_of s' ≡ found_of s)

  pub record HasRead (f : TripleFamily T) (s s' : TripleSeat T) (j : ℕ) (x : T) : Type 0 where
    pub own : IsSeat f s' × (s'.who ≡ s.who)
    pub access : IsAccess 1 (clock_of s) (clock_of s') (times_of s) (times_of s') (reads_of s j).times (reads_of s' j).times
    pub answer : IsReadAccess (opening_of f) (reads_of s j) (reads_of s' j) x
    pub others : KeepsOthers j (reads_of s) (reads_of s') × KeepsEach (writes_of s) (writes_of s')
    pub tags : (said_of s' ≡ said_of s) × (found_of s' ≡ found_of s)

  module _ (f : TripleFamily T) (s : TripleSeat T) (own : IsSeat f s) where
    -- the seat after a call
    pub seat_after : (s' : TripleSeat T) (u : Process (TripleSight T)) (cs : List (ℕ × T)) →
        s'.seat.inner.table_id ≡ s.seat.inner.table_id → s'.spare ≡ s.spare → s'.processes ≡ s.processes → s'.who ≡ s.who →
        s'.seat.inner.me.0 ≡ Has (u ∷ []) → s'.seat.inner.me.1 ≡ cs →
        u.who ≡ (known_by s).who → IsAtRest s.spare s.processes u s'.stored.fills s'.stored.reads cs → IsSeat f s'
    seat_after s' u cs table spare processes who me slots same rest =
        let is : u ≡ known_by s' = sym (ap process_of me) in record {
          table = table ∙ own.table;
          opening = spare ∙ own.opening;
          processes = processes ∙ own.processes;
          one = me ∙ ap (λ z. Has (z ∷ [])) is;
          who = ap (λ z. z.who) (sym is) ∙ (same ∙ (own.who ∙ sym who));
          rest = subst (λ (z : T × ℕ × Process (TripleSight T) × List (ℕ × T)). IsAtRest z.0 z.1 z.2 s'.stored.fills s'.stored.reads z.3)
              (λ i. (sym spare i, sym processes i, is i, sym slots i)) rest;
        }

  module _ (f : TripleFamily T) (s : TripleSeat T) (own : IsSeat f s) (j : ℕ) (other : (j < processes_of f) × (j ≢ number_of s)) where
    pub within : j < s.processes
    within = subst (λ z. j < z) (sym own.processes) other.0

    pub apart : j ≢ (known_by s).who
    apart = λ e. other.1 (e ∙ own.who)

    abbrev pub row_at : IsRow s.spare (place s.processes (known_by s).who j)
        (of_cell Spent (place s.processes (known_by s).who j) (known_by s).parts)
        s.seat.inner.me.1 (among (known_by s).who j) (get_or s.stored.fills j 0)
    row_at = own.rest.row j within apart

    abbrev pub column_at : IsColumn s.spare (place s.processes j (known_by s).who)
        (of_cell Spent (place s.processes j (known_by s).who) (known_by s).parts) s.seat.inner.me.1
        ((s.processes - 1) + among (known_by s).who j) (get_or s.stored.reads j 0)
    column_at = own.rest.column j within apart

    -- the cell that the seat's process writes, by its number
    module _ (cell : ℕ) (at : cell ≡ place s.processes s.who j) where
      pub row_place : cell ≡ place s.processes (known_by s).who j
      row_place = at ∙ ap (λ z. place s.processes z j) (sym own.who)

      row_low : cell < s.processes * s.processes
      row_low = subst (λ z. z < s.processes * s.processes) (sym row_place)
          (place_in s.processes (known_by s).who j own.rest.inside within apart)

      pub row_inside : cell < (triples (processes_of f)).cells
      row_inside = subst (λ z. cell < z * z) own.processes row_low

      pub row_long : cell < length (known_by s).parts
      row_long = subst (λ z. cell < z) (sym own.rest.parts) row_low

      pub row_notes : of_cell Spent cell (known_by s).parts ≡ Writer row_at.notes
      row_notes = ap (λ z. of_cell Spent z (known_by s).parts) row_place ∙ row_at.is

      -- the call's slot stands where the code turns to
      pub row_slot : get_elem? s.seat.inner.me.1 (among s.who j) ≡ some (slot_at cell row_at.notes.slot, row_at.record_there)
      row_slot = ap (λ z. get_elem? s.seat.inner.me.1 (among z j)) (sym own.who)
          ∙ (row_at.slot ∙ ap (λ z. some (slot_at z row_at.notes.slot, row_at.record_there)) (sym row_place))

    pub row_written : (writes_of s j).items ≡ row_at.notes.written
    row_written = ap (λ z. z.items) (sees_writes s.spare s.processes (known_by s) j row_at.notes apart row_at.is)

    -- and the cell that it reads
    module _ (cell : ℕ) (at : cell ≡ place s.processes j s.who) where
      pub column_place : cell ≡ place s.processes j (known_by s).who
      column_place = at ∙ ap (λ z. place s.processes j z) (sym own.who)

      column_low : cell < s.processes * s.processes
      column_low = subst (λ z. z < s.processes * s.processes) (sym column_place)
          (place_in s.processes j (known_by s).who within own.rest.inside (λ e. apart (sym e)))

      pub column_inside : cell < (triples (processes_of f)).cells
      column_inside = subst (λ z. cell < z * z) own.processes column_low

      pub column_long : cell < length (known_by s).parts
      column_long = subst (λ z. cell < z) (sym own.rest.parts) column_low

      pub column_notes : of_cell Spent cell (known_by s).parts ≡ Reader column_at.notes
      column_notes = ap (λ z. of_cell Spent z (known_by s).parts) column_place ∙ column_at.is

      pub column_slot : get_elem? s.seat.inner.me.1 ((s.processes - 1) + among s.who j)
          ≡ some (slot_at cell column_at.notes.slot, column_at.notes.at_hand.value)
      column_slot = ap (λ z. get_elem? s.seat.inner.me.1 ((s.processes - 1) + among z j)) (sym own.who)
          ∙ (column_at.slot ∙ ap (λ z. some (slot_at z column_at.notes.slot, column_at.notes.at_hand.value)) (sym column_place))

      -- an answer, as contracts see what was read before
      pub is_answer : (fits : T → Type 0) (rises : T → T → Type 0) (x : T) →
          IsAnswer fits rises column_at.notes.opening.value column_at.notes.answers column_at.notes.told x →
          IsAnswer fits rises (opening_of f) (reads_of s j).answers (reads_of s j).told x
      is_answer fits rises x h =
          let seen = sees_reads s.spare s.processes (known_by s) j column_at.notes apart column_at.is in
          subst (λ (z : T × ReadAccesses T). IsAnswer fits rises z.0 z.1.answers z.1.told x)
          (λ i. ((column_at.opened ∙ own.opening) i, sym seen i)) h

      -- the record at hand is the last answer, as contracts see what was read before
      pub column_last : column_at.notes.at_hand.value ≡ last_or (opening_of f) (reads_of s j).answers
      column_last =
          let seen = sees_reads s.spare s.processes (known_by s) j column_at.notes apart column_at.is in
          column_at.last ∙ ap (λ (z : T × ReadAccesses T). last_or z.0 z.1.answers) (λ i. (own.opening i, sym seen i))

    -- the process has its cells
    cells : HasCells s.processes (known_by s).who (known_by s)
    cells = record {
      row = λ i li ne. let row = own.rest.row i li ne in (row.notes, row.is);
      column = λ i li ne. let column = own.rest.column i li ne in (column.notes, column.is);
    }

    -- what the plan says of an access, the step owes that makes it
    module _ (plan : T → ℕ → ℕ → ℕ → ℕ → Doings T → Type 0) (cell : ℕ) where
      pub publish_may : (x : T) → cell ≡ place s.processes s.who j →
          MayWrite (plan (opening_of f) 1 (processes_of f) (limit_of f) (number_of s)) 1 x j
          (doings_of s) →
          MayPublish (plan_of plan f.table.rows.inner.shared.key) (known_by s) cell row_at.notes x
      publish_may x at may =
          let v : Process (TripleSight T) = known_by s in
          subst (λ (z : T × ℕ × ℕ). MayPublish (TriplePlan plan z.0 (limit_of f) z.1) v z.2 row_at.notes x)
          (λ i. (own.opening i, own.processes i, sym (row_place cell at) i))
          (may_publish plan s.spare (limit_of f) s.processes v j own.rest.inside own.rest.parts cells within apart row_at.notes x row_at.is
          (subst (λ (z : T × ℕ × ℕ). MayWrite (plan z.0 1 z.1 (limit_of f) z.2) 1 x j (done_by s.spare s.processes v))
          (λ i. (sym own.opening i, sym own.processes i, sym own.who i)) may))

      pub decide_may : cell ≡ place s.processes j s.who →
          MayRead (plan (opening_of f) 1 (processes_of f) (limit_of f) (number_of s)) 1 j
          (doings_of s) →
          MayDecide (plan_of plan f.table.rows.inner.shared.key) (known_by s) cell column_at.notes
      decide_may at may =
          let v : Process (TripleSight T) = known_by s in
          subst (λ (z : T × ℕ × ℕ). MayDecide (TriplePlan plan z.0 (limit_of f) z.1) v z.2 column_at.notes)
          (λ i. (own.opening i, own.processes i, sym (column_place cell at) i))
          (may_decide plan s.spare (limit_of f) s.processes v j own.rest.inside own.rest.parts cells within apart
          column_at.notes column_at.is
          (subst (λ (z : T × ℕ × ℕ). MayRead (plan z.0 1 z.1 (limit_of f) z.2) 1 j (done_by s.spare s.processes v))
          (λ i. (sym own.opening i, sym own.processes i, sym own.who i)) may))

    -- a whole write
    pub wrote : (cell : ℕ) → cell ≡ place s.processes s.who j → j < 16 → (x y : T) (slot t : ℕ) (held : List ℕ) (s' : TripleSeat T) →
        (known_by s).clock < t → slot < 3 →
        s'.seat.inner.me.0 ≡ Has (knows Spent (known_by s) cell (Writer (published row_at.notes slot x t)) t held ∷ []) →
        Replaced s.seat.inner.me.1 s'.seat.inner.me.1 (among s.who j) (slot_at cell slot, y) →
        IsRotated held (held_slots s'.seat.inner.me.1) → s'.seat.inner.table_id ≡ s.seat.inner.table_id → s'.spare ≡ s.spare →
        s'.processes ≡ s.processes → s'.who ≡ s.who → s'.stored.fills ≡ set s.stored.fills j slot → s'.stored.reads ≡ s.stored.reads →
        Wrote f s s' j x
    wrote cell at few x y slot t held s' later low me new turned table spare processes who filled kept =
        let o : T = s.spare in
        let n : ℕ = s.processes in
        let v : Process (TripleSight T) = known_by s in
        let row = row_at in
        let q : WriterNotes T = published row.notes slot x t in
        let k : ℕ = place n v.who j in
        let is_cell : cell ≡ k = row_place cell at in
        let size : length s.stored.fills ≡ 16 = own.rest.sized.0 in
        let u : Process (TripleSight T) = knows Spent v k (Writer q) t held in
        let now : s'.seat.inner.me.0 ≡ Has (u ∷ []) = me ∙ ap (λ z. Has (knows Spent v z (Writer q) t held ∷ [])) is_cell in
        let rest = rest_write o n v s.stored.fills (set s.stored.fills j slot) s.stored.reads s.seat.inner.me.1 s'.seat.inner.me.1 j q y t
        (v.times ++ t ∷ []) held within
        apart own.rest row.took row.opened low (set_long s.stored.fills j slot) (get_set_here s.stored.fills j slot 0 (omega arith))
        (λ i ne. get_set_else s.stored.fills j i slot 0 ne)
        (subst (λ (z : ℕ × ℕ). Replaced s.seat.inner.me.1 s'.seat.inner.me.1 (among z.0 j) (slot_at z.1 slot, y))
        (λ i. (sym own.who i, is_cell i)) new)
        turned in
        let did = a_write o n v j row.notes x slot t held own.rest.inside own.rest.parts within apart row.is later in
        let is : u ≡ known_by s' = sym (ap process_of now) in
        let all : (T × ℕ × Process (TripleSight T)) → Type 0 = λ z.
        IsAccess 1 v.clock z.2.clock v.times z.2.times (writes_to o n v j).times (writes_to z.0 z.1 z.2 j).times
        × IsWriteAccess (writes_to o n v j) (writes_to z.0 z.1 z.2 j) x
        × KeepsOthers j (writes_to o n v) (writes_to z.0 z.1 z.2) × KeepsEach (reads_from o n v) (reads_from z.0 z.1 z.2) in
        let h = subst all (λ i. (sym spare i, sym processes i, is i)) did in record {
          own = (
            seat_after f s own s' u s'.seat.inner.me.1 table spare processes who now refl refl
                (subst (λ (z : List ℕ × List ℕ). IsAtRest o n u z.0 z.1 s'.seat.inner.me.1) (λ i. (sym filled i, sym kept i)) rest),
            who,
          );
          access = h.0;
          written = h.1;
          others = (h.2, h.3);
          tags = (ap (λ z. z.said) (sym is), ap (λ z. z.found) (sym is));
        }

    -- a whole read
    pub has_read : (cell : ℕ) → cell ≡ place s.processes j s.who → j < 16 → (fits : T → Type 0) (rises : T → T → Type 0) (cs : List (ℕ × T))
        (m : Me T (View (TripleSight T))) (slot : ℕ) (marked : Bool) (s' : TripleSeat T) →
        (h : HasLooked fits rises cell (known_by s) column_at.notes cs m slot marked) →
        s'.seat.inner.me.0 ≡ m.0 →
        Replaced s.seat.inner.me.1 s'.seat.inner.me.1 ((s.processes - 1) + among s.who j) (slot_at cell slot, h.answer) →
        IsRotated (held_slots ((slot_at cell slot, h.answer) ∷ cs)) (held_slots s'.seat.inner.me.1) →
        s'.seat.inner.table_id ≡ s.seat.inner.table_id → s'.spare ≡ s.spare → s'.processes ≡ s.processes → s'.who ≡ s.who →
        s'.stored.fills ≡ s.stored.fills → s'.stored.reads ≡ set s.stored.reads j slot → HasRead f s s' j h.answer
    has_read cell at few fits rises cs m slot marked s' h me new turned table spare processes who kept found =
        let o : T = s.spare in
        let n : ℕ = s.processes in
        let v : Process (TripleSight T) = known_by s in
        let column = column_at in
        let q : ReaderNotes T = answered h.notes h.answer h.time h.number h.writes in
        let k : ℕ = place n j v.who in
        let is_cell : cell ≡ k = column_place cell at in
        let size : length s.stored.reads ≡ 16 = own.rest.sized.1 in
        let held : List ℕ = held_slots ((slot_at cell slot, h.answer) ∷ cs) in
        let u : Process (TripleSight T) = knows Spent v k (Reader q) h.time held in
        let now : s'.seat.inner.me.0 ≡ Has (u ∷ []) = me ∙ (h.view ∙ ap (λ z. Has (knows Spent v z (Reader q) h.time held ∷ [])) is_cell) in
        let rest = rest_read o n v s.stored.fills s.stored.reads (set s.stored.reads j slot) s.seat.inner.me.1 s'.seat.inner.me.1 j q h.time
        (v.times ++ h.time ∷ []) held
        within apart own.rest (h.kept.0 ∙ column.took) refl (h.kept.1 ∙ column.opened)
        (h.took.1 ∙ sym (last_snoc o h.notes.answers h.answer)) (subst (λ z. z < 3) (sym h.took.0) h.took.2)
        (set_long s.stored.reads j slot) (get_set_here s.stored.reads j slot 0 (omega arith) ∙ sym h.took.0)
        (λ i ne. get_set_else s.stored.reads j i slot 0 ne)
        (subst (λ (z : ℕ × ℕ × ℕ × T). Replaced s.seat.inner.me.1 s'.seat.inner.me.1 ((n - 1) + among z.0 j) (slot_at z.1 z.2, z.3))
        (λ i. (sym own.who i, is_cell i, sym h.took.0 i, sym h.took.1 i)) new)
        turned in
        let did = a_read o n v j column.notes h.notes h.answer h.time h.number h.writes held own.rest.inside own.rest.parts within apart
        column.is
        h.same.0 h.same.1 h.same.2 column.opened h.later h.did h.heard h.heeds in
        let is : u ≡ known_by s' = sym (ap process_of now) in
        let all : (T × ℕ × Process (TripleSight T)) → Type 0 = λ z.
        IsAccess 1 v.clock z.2.clock v.times z.2.times (reads_from o n v j).times (reads_from z.0 z.1 z.2 j).times
        × IsReadAccess o (reads_from o n v j) (reads_from z.0 z.1 z.2 j) h.answer
        × KeepsOthers j (reads_from o n v) (reads_from z.0 z.1 z.2) × KeepsEach (writes_to o n v) (writes_to z.0 z.1 z.2) in
        let r = subst all (λ i. (sym spare i, sym processes i, is i)) did in record {
          own = (
            seat_after f s own s' u s'.seat.inner.me.1 table spare processes who now refl refl
                (subst (λ (z : List ℕ × List ℕ). IsAtRest o n u z.0 z.1 s'.seat.inner.me.1) (λ i. (sym kept i, sym found i)) rest),
            who,
          );
          access = r.0;
          answer = subst (λ z. IsReadAccess z (reads_of s j) (reads_of s' j) h.answer) own.opening r.1;
          others = (r.2, r.3);
          tags = (ap (λ z. z.said) (sym is), ap (λ z. z.found) (sym is));
        }
