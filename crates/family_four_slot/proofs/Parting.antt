-- The seats of a new family, one for each process, and the one that has all of them at the end.
use Rattle.std.proofs.Common.{◌≡◌, ◌≢◌, ◌⊎◌, ℕ, zero, suc, ◌+◌, ◌-◌, ◌*◌, ◌<◌, ◌≤◌, Bool, true, false, nat_eq, cond, List, [], ◌∷◌, ◌++◌}
use Rattle.std.proofs.Common.{length, slice_get, Some, get_or, replicate, refl, sym, ap, ◌∙◌, subst, arith, ⊎_elim, inl, inr}
use Rattle.std.proofs.lemmas.Bool.{cases_lt}
use Rattle.std.proofs.lemmas.List.{length_push}
use mathlib.Core.Option.{some}
use lib.ListN.{get_elem?}
use Rattle.atomic_table.specs.Seated.{TableId}
use Rattle.history_core.specs.Schedules.{positions}
use Rattle.cell_contract.specs.Sights.{writer_or, reader_or}
use Rattle.cell_four_slot.specs.declared.notes.WriterNotes.{WriterNotes}
use Rattle.cell_four_slot.specs.declared.notes.ReaderNotes.{ReaderNotes}
use Rattle.cell_contract.specs.declared.sight.Sight.TheVariants.{Spent, Writer, Reader}
use Rattle.cell_four_slot.specs.Steps.{FourSlotSight, first_writer, first_reader, receipt_for}
use Rattle.cell_contract.specs.Accesses.{WriteAccesses, ReadAccesses, IsUnused, no_writes, no_reads}
use Rattle.cell_contract.specs.Ends.{Each, EachTwo, FindWhatWasSaid, IsSchedule, IsAtomicCell}
use Rattle.cell_contract.specs.Plans.{HasNoSteps}
use Rattle.family_four_slot.specs.declared.family.FourSlotFamily.{FourSlotFamily}
use Rattle.family_four_slot.specs.Seated.{FourSlotSeat}
use Rattle.family_table.specs.declared.table.FamilySeat.{FamilySeat}
use Rattle.family_four_slot.specs.declared.family.Shown.{Shown}
use Rattle.family_four_slot.specs.declared.family.Stored.{Stored}
use Rattle.family_table.specs.declared.notes.Process.{Process}
use Rattle.family_table.specs.declared.notes.View.TheVariants.{Has}
use Rattle.family_table.specs.Family.{of_cell}
use Rattle.family_table.specs.Places.{upto}
use Rattle.family_four_slot.specs.FourSlots.{first_part, first_process, Idle, IsInShape}
use Rattle.family_table.specs.Places.{place, writer_of, reader_of}
use Rattle.family_table.specs.Seats.{all_but_first, first_of}
use Rattle.family_table.specs.Seated.{known_by, number_of, clock_of, times_of, said_of, found_of}
use Rattle.family_four_slot.specs.Seated.{opening_of, processes_of, writes_of, reads_of, IsSeat, IsFirst}
use Rattle.family_four_slot.specs.Plans.{done_by}
use Rattle.family_four_slot.specs.Places.{four_slots}
use Rattle.family_four_slot.specs.Tables.{Done, IsEnded}
use Rattle.family_four_slot.specs.Words.{none_shown, shown_to, writes_to, reads_from, IsAtRest}
use Rattle.family_table.specs.Views.{process_of}
use Rattle.family_four_slot.proofs.Calls.{sees_writes, sees_reads}
use Rattle.family_table.proofs.Seats.{same_number}
use Rattle.family_table.proofs.Gathering.{each_more}
use Rattle.family_table.proofs.Looked.{all_found}
use Rattle.family_table.proofs.Places.{place_in, writer_there, reader_there}
use Rattle.family_table.proofs.Seats.{differ}
use Rattle.family_table.proofs.Firsts.{upto_long, upto_get, replicate_long}
use Rattle.family_table.proofs.Firsts.{upto_next}

all_same : {A : Type 0} (m j : ℕ) (x d : A) → j < m → get_or (replicate m x) j d ≡ x
all_same zero j x d l = absurd (omega arith)
all_same (suc m) zero x d l = refl
all_same (suc m) (suc j) x d l = all_same m j x d (omega arith)

-- what a process remembers that has stored nothing
abbrev pub unstored : Stored
unstored = record { shown = replicate 16 (record { bits = 0 ∷ 0 ∷ []; latest = 0 }); reads = replicate 16 4 }

module _ {T : Type 0} where
  -- the seats of the first processes were parted off
  pub record DealtTo (id : TableId) (n : ℕ) (o : T) (who : ℕ) (rest : FamilySeat T (FourSlotSight T))
      (seats : List (FourSlotSeat T)) : Type 0 where
    pub table : rest.inner.table_id ≡ id
    pub me : rest.inner.me ≡ (Has (upto (first_process o n) who (n - who)), [])
    pub long : length seats ≡ who
    pub each : Each (IsFirst id n o) seats

  -- one seat more is parted off
  pub dealt_more : (id : TableId) (n : ℕ) (o : T) (who : ℕ) (rest rest' : FamilySeat T (FourSlotSight T)) (seats : List (FourSlotSeat T))
      (s : FourSlotSeat T) → who < n → DealtTo id n o who rest seats → rest'.inner.table_id ≡ rest.inner.table_id →
      rest'.inner.me ≡ (all_but_first rest.inner.me.0, rest.inner.me.1) → s.seat.inner.table_id ≡ rest.inner.table_id →
      s.seat.inner.me ≡ (first_of rest.inner.me.0, []) → s.spare ≡ o → s.processes ≡ n → s.who ≡ who → s.stored ≡ unstored →
      DealtTo id n o (who + 1) rest' (seats ++ s ∷ [])
  dealt_more id n o who rest rest' seats s l h table me mine my opens many number bits =
      let now : rest.inner.me ≡ (Has (first_process o n who ∷ upto (first_process o n) (who + 1) (n - (who + 1))), []) =
      h.me ∙ ap (λ ps. (Has ps, [])) (upto_next (first_process o n) who n l) in record {
        table = table ∙ h.table;
        me = me ∙ ap (λ z. (all_but_first z.0, z.1)) now;
        long = length_push seats s ∙ (let e : length seats ≡ who = h.long in let z : length seats + 1 ≡ who + 1 = omega arith in z);
        each = each_more (IsFirst id n o) seats s h.each (subst (λ z. IsFirst id n o z s) (sym h.long) (record {
          table = mine ∙ h.table;
          opening = opens;
          processes = many;
          who = number;
          me = my ∙ ap (λ z. (first_of z.0, [])) now;
          shown = λ j lj. ap (λ z. shown_to z j) bits ∙ all_same 16 j (record { bits = 0 ∷ 0 ∷ []; latest = 0 }) none_shown lj;
          reads = λ j lj. ap (λ (z : Stored). get_or z.reads j 0) bits ∙ all_same 16 j 4 0 lj;
          long = (ap (λ (z : Stored). length z.shown) bits, ap (λ (z : Stored). length z.reads) bits);
        }));
      }

  -- what is first known of a cell
  part_of : (o : T) (n i k : ℕ) → (get_or (upto (first_part o n i) 0 (n * n)) k Spent ≡ first_part o n i k)
      ⊎ (get_or (upto (first_part o n i) 0 (n * n)) k Spent ≡ Spent)
  part_of o n i k = ⊎_elim
      (λ (l : k < n * n). inl (upto_get (first_part o n i) 0 (n * n) k Spent l
      ∙ ap (first_part o n i) (let z : 0 + k ≡ k = omega arith in z)))
      (λ (l : n * n ≤ k). inr (beyond (upto (first_part o n i) 0 (n * n)) k
      (let z : length (upto (first_part o n i) 0 (n * n)) ≡ n * n = upto_long (first_part o n i) 0 (n * n) in omega arith)))
      (cases_lt k (n * n)) where
        beyond : (xs : List (FourSlotSight T)) (i : ℕ) → length xs ≤ i → get_or xs i Spent ≡ Spent
        beyond [] i l = refl
        beyond (x ∷ xs) zero l = absurd (omega arith)
        beyond (x ∷ xs) (suc i) l = beyond xs i (omega arith)

  -- a fact of all that may be first known
  first_any : (P : FourSlotSight T → Type 0) (o : T) (n i k : ℕ) → P (Writer (first_writer o)) → P (Reader (first_reader o)) → P Spent →
      P (of_cell Spent k (first_process o n i).parts)
  first_any P o n i k w r s = ⊎_elim
      (λ (e : get_or (upto (first_part o n i) 0 (n * n)) k Spent ≡ first_part o n i k). subst P (sym e)
      (either (nat_eq i (writer_of n k)) (nat_eq i (reader_of n k))))
      (λ (e : get_or (upto (first_part o n i) 0 (n * n)) k Spent ≡ Spent). subst P (sym e) s)
      (part_of o n i k) where
        either : (a b : Bool) → P (cond a (Writer (first_writer o)) (cond b (Reader (first_reader o)) Spent))
        either true b = w
        either false true = r
        either false false = s

  first_there : (o : T) (n i k : ℕ) → k < n * n → of_cell Spent k (first_process o n i).parts ≡ first_part o n i k
  first_there o n i k l = upto_get (first_part o n i) 0 (n * n) k Spent l ∙ ap (first_part o n i) (let z : 0 + k ≡ k = omega arith in z)

  module _ (o : T) (n i : ℕ) where
    abbrev v : Process (FourSlotSight T)
    v = first_process o n i

    pub first_rest : (kept : Stored) → i < n → n ≤ 16 → ((j : ℕ) → j < 16 → shown_to kept j ≡ record { bits = 0 ∷ 0 ∷ []; latest = 0 }) →
        ((j : ℕ) → j < 16 → get_or kept.reads j 0 ≡ 4) →
        (length kept.shown ≡ 16) × (length kept.reads ≡ 16) → IsAtRest o n v kept []
    first_rest kept li most shown reads long = record {
      inside = li;
      long = (subst (λ z. n ≤ z) (sym long.0) most, subst (λ z. n ≤ z) (sym long.1) most);
      parts = upto_long (first_part o n i) 0 (n * n);
      held = refl;
      idle = λ k. first_any Idle o n i k refl refl tt;
      quiet = λ k nw. ⊎_elim
          (λ (e : get_or (upto (first_part o n i) 0 (n * n)) k Spent ≡ first_part o n i k). ap receipt_for e
          ∙ (ap (λ b. receipt_for (cond b (Writer (first_writer o)) (cond (nat_eq i (reader_of n k)) (Reader (first_reader o)) Spent)))
          (differ i (writer_of n k) (λ q. nw (sym q))) ∙ silent (nat_eq i (reader_of n k))))
          (λ (e : get_or (upto (first_part o n i) 0 (n * n)) k Spent ≡ Spent). ap receipt_for e)
          (part_of o n i k);
      row = λ j lj ne.
          let k : ℕ = place n i j in
          let there = first_there o n i k (place_in n i j li lj ne) in
          record {
            notes = first_writer o;
            is = there ∙ ap (λ b. cond {A = FourSlotSight T} b (Writer (first_writer o))
                (cond (nat_eq i (reader_of n k)) (Reader (first_reader o)) Spent))
                (same_number i (writer_of n k) (sym (writer_there n i j li lj ne)));
            idle = refl;
            opened = refl;
            newest = refl;
            bits = sym (ap (λ (z : Shown). z.bits) (shown j (omega arith)));
            shown = ap (λ (z : Shown). z.latest) (shown j (omega arith));
          };
      column = λ j lj ne.
          let k : ℕ = place n j i in
          let other : i ≢ j = λ q. ne (sym q) in
          let there = first_there o n i k (place_in n j i lj li other) in
          record {
            notes = first_reader o;
            is = there
                ∙ (ap (λ b. cond {A = FourSlotSight T} b (Writer (first_writer o))
                (cond (nat_eq i (reader_of n k)) (Reader (first_reader o)) Spent))
                (differ i (writer_of n k) (λ q. other (q ∙ writer_there n j i lj li other)))
                ∙ ap (λ b. cond {A = FourSlotSight T} b (Reader (first_reader o)) Spent)
                (same_number i (reader_of n k) (sym (reader_there n j i lj li other))));
            idle = refl;
            opened = refl;
            slots = ([], [], refl);
            chosen = reads j (omega arith);
            last = refl;
          };
    } where
      silent : (b : Bool) → receipt_for (cond b (Reader (first_reader o)) Spent) ≡ Spent
      silent true = refl
      silent false = refl

    blank : (b : Bool) (x : FourSlotSight T) (P : FourSlotSight T → Type 0) → P Spent → P x → P (cond b Spent x)
    blank true x P s h = s
    blank false x P s h = h

    pub first_writes : (j : ℕ) → writes_to o n v j ≡ no_writes
    first_writes j = ap (λ (p : WriterNotes T). record { items = p.written; times = p.times })
        (blank (nat_eq j i) (of_cell Spent (place n i j) v.parts) (λ x. writer_or (first_writer o) x ≡ first_writer o) refl
        (first_any (λ x. writer_or (first_writer o) x ≡ first_writer o) o n i (place n i j) refl refl refl))

    pub first_reads : (j : ℕ) → reads_from o n v j ≡ no_reads
    first_reads j = ap (λ (g : ReaderNotes T).
        record { answers = g.answers; numbers = g.numbers; known = g.known; told = g.told; heard = g.heard; times = g.times })
        (blank (nat_eq j i) (of_cell Spent (place n j i) v.parts) (λ x. reader_or (first_reader o) x ≡ first_reader o) refl
        (first_any (λ x. reader_or (first_reader o) x ≡ first_reader o) o n i (place n j i) refl refl refl))

    pub first_shape : i < n → n ≤ 16 → IsInShape n i v
    first_shape li most =
        let none_yet : Shown = record { bits = 0 ∷ 0 ∷ []; latest = 0 } in
        let unread : ℕ = 4 in
        let rest = first_rest unstored li most (λ j lj. all_same 16 j none_yet none_shown lj) (λ j lj. all_same 16 j unread 0 lj)
        (replicate_long 16 none_yet, replicate_long 16 unread) in record {
          row = λ j lj ne. let row = rest.row j lj ne in (row.notes, row.is);
          column = λ j lj ne. let column = rest.column j lj ne in (column.notes, column.is);
        }

    -- it has made no step
    pub first_done : HasNoSteps (done_by o n v)
    first_done = record {
      times = refl;
      tags = (refl, refl);
      writes = λ j. ap (λ (z : WriteAccesses T). record { items = z.items; begins = z.times.begins; ends = z.times.ends }) (first_writes j);
      reads = λ j. ap (λ (z : ReadAccesses T). record { items = z.answers; begins = z.times.begins; ends = z.times.ends }) (first_reads j);
    }

  -- such a seat is one of the family's, and unused
  pub first_seat : (f : FourSlotFamily T) (n : ℕ) (o : T) (i : ℕ) (s : FourSlotSeat T) → opening_of f ≡ o → processes_of f ≡ n → i < n →
      n ≤ 16 → IsFirst f.table.rows.inner.shared.table_id n o i s →
      (IsSeat f s × (number_of s ≡ i)) × IsUnused (clock_of s) (times_of s) (writes_of s) (reads_of s) (said_of s) (found_of s)
  first_seat f n o i s opens many li most h =
      let is : known_by s ≡ first_process o n i = ap (λ z. process_of z.0) h.me in
      let rest = first_rest o n i s.stored li most h.shown h.reads h.long in (
        (
          record {
            table = h.table;
            opening = h.opening ∙ sym opens;
            processes = h.processes ∙ sym many;
            one = ap (λ z. z.0) h.me ∙ ap (λ z. Has (z ∷ [])) (sym is);
            who = ap (λ z. z.who) is ∙ sym h.who;
            rest = subst (λ (z : T × ℕ × Process (FourSlotSight T) × List (ℕ × T)). IsAtRest z.0 z.1 z.2 s.stored z.3)
                (λ k. (sym h.opening k, sym h.processes k, sym is k, (sym h.me k).1)) rest;
          },
          h.who,
        ),
        (
          ap (λ z. z.clock) is,
          ap (λ z. z.times) is,
          λ j. (λ k. writes_to (h.opening k) (h.processes k) (is k) j) ∙ first_writes o n i j,
          λ j. (λ k. reads_from (h.opening k) (h.processes k) (is k) j) ∙ first_reads o n i j,
          ap (λ z. z.said) is,
          ap (λ z. z.found) is,
        ),
      )

  -- what the table shows at the end, by the seats
  module _ (f : FourSlotFamily T) (seats : List (FourSlotSeat T)) (each : Each (λ i s. IsSeat f s × (number_of s ≡ i)) seats)
      (ps : List (Process (FourSlotSight T)))
      (there : (i : ℕ) (s : FourSlotSeat T) → slice_get seats i ≡ Some s → (a : ℕ) × (get_elem? ps a ≡ some (known_by s)))
      (ended : IsEnded (processes_of f) (opening_of f) ps) where
    pub all_scheduled : (steps : List ℕ) × IsSchedule (processes_of f) steps × Each (λ i s. times_of s ≡ positions 1 i steps) seats
    all_scheduled = (
      ended.steps,
      ended.within,
      λ i s e. let t = there i s e in let own = each i s e in
          ended.made t.0 (known_by s) t.1 ∙ ap (λ z. positions 1 z ended.steps) (own.0.who ∙ own.1),
    )

    pub all_say : length seats ≡ processes_of f → FindWhatWasSaid said_of found_of seats
    all_say many = all_found Spent (four_slots (processes_of f)) (Done (opening_of f)) (processes_of f) ps ended seats many
        (λ i s e. (each i s e).0.who ∙ (each i s e).1) there

    pub all_atomic : EachTwo (λ i j s t. IsAtomicCell (opening_of f) (writes_of s j) (reads_of t i)) seats
    all_atomic i j s t at_s at_t ne =
        let a = there i s at_s in
        let b = there j t at_t in
        let mine = each i s at_s in
        let theirs = each j t at_t in
        let n : ℕ = processes_of f in
        let v : Process (FourSlotSight T) = known_by s in
        let u : Process (FourSlotSight T) = known_by t in
        let who_s : v.who ≡ i = mine.0.who ∙ mine.1 in
        let who_t : u.who ≡ j = theirs.0.who ∙ theirs.1 in
        let li : i < s.processes = subst (λ z. z < s.processes) who_s mine.0.rest.inside in
        let lj : j < t.processes = subst (λ z. z < t.processes) who_t theirs.0.rest.inside in
        let same : t.processes ≡ s.processes = theirs.0.processes ∙ sym mine.0.processes in
        let row = mine.0.rest.row j (subst (λ z. j < z) same lj) (λ e. ne (sym (e ∙ who_s))) in
        let column = theirs.0.rest.column i (subst (λ z. i < z) (sym same) li) (λ e. ne (e ∙ who_t)) in
        let k : ℕ = place n i j in
        let inside : k < n * n = place_in n i j (subst (λ z. i < z) mine.0.processes li) (subst (λ z. j < z) theirs.0.processes lj)
        (λ e. ne (sym e)) in
        let writes : of_cell Spent k v.parts ≡ Writer row.notes =
        (λ x. of_cell Spent (place (sym mine.0.processes x) (sym who_s x) j) v.parts) ∙ row.is in
        let reads : of_cell Spent k u.parts ≡ Reader column.notes =
        (λ x. of_cell Spent (place (sym theirs.0.processes x) i (sym who_t x)) u.parts) ∙ column.is in
        let done = (ended.cells a.0 b.0 v u a.1 b.1 k inside row.notes column.notes writes reads).1 row.idle column.idle in
        let w = sees_writes s.spare s.processes v v.who j row.notes (λ e. ne (sym (e ∙ who_s))) refl row.is in
        let r = sees_reads t.spare t.processes u u.who i column.notes (λ e. ne (e ∙ who_t)) refl column.is in
        subst (λ (z : WriteAccesses T × ReadAccesses T). IsAtomicCell (opening_of f) z.0 z.1) (λ x. (sym w x, sym r x))
        (record { atomic = done.atomic; ended = done.ended; known = done.known })
