-- The seats of a new family, one for each process, and the one that has all of them at the end.
use Rattle.std.proofs.Common.{◌≡◌, ℕ, ◌+◌, ◌-◌, ◌*◌, ◌<◌, ◌≤◌, List, [], ◌∷◌, ◌++◌, length, slice_get, Some, get_or}
use Rattle.std.proofs.Common.{replicate, sym, ap}
use Rattle.std.proofs.Common.{◌∙◌, subst, arith}
use Rattle.std.proofs.lemmas.List.{length_push}
use mathlib.Core.Option.{some}
use lib.ListN.{get_elem?, get_or-replicate}
use Rattle.atomic_table.specs.Seated.{TableId}
use Rattle.history_core.specs.Schedules.{positions}
use Rattle.cell_contract.specs.declared.sight.Sight.TheVariants.{Spent, Writer, Reader}
use Rattle.cell_triple.specs.Steps.{TripleSight}
use Rattle.cell_contract.specs.Accesses.{WriteAccesses, ReadAccesses, IsUnused}
use Rattle.cell_contract.specs.Ends.{Each, EachTwo, FindWhatWasSaid, IsSchedule, IsAtomicCell}
use Rattle.family_table.specs.declared.notes.Process.{Process}
use Rattle.family_table.specs.declared.notes.View.TheVariants.{Has}
use Rattle.family_table.specs.Family.{of_cell}
use Rattle.family_table.specs.Places.{upto}
use Rattle.family_table.specs.Places.{place}
use Rattle.family_table.specs.Seats.{all_but_first}
use Rattle.family_table.specs.Views.{process_of}
use Rattle.family_table.proofs.Gathering.{each_more}
use Rattle.family_table.proofs.Looked.{all_found}
use Rattle.family_table.proofs.Firsts.{upto_next}
use Rattle.family_table.proofs.Places.{place_in}
use Rattle.family_triple.specs.declared.family.TripleFamily.{TripleFamily}
use Rattle.family_triple.specs.Seated.{TripleSeat}
use Rattle.family_table.specs.declared.table.FamilySeat.{FamilySeat}
use Rattle.family_triple.specs.Access.{IsReady}
use Rattle.family_table.specs.Seated.{known_by, number_of, clock_of, times_of, said_of, found_of}
use Rattle.family_triple.specs.Seated.{opening_of, processes_of, writes_of, reads_of, IsSeat, IsFirst}
use Rattle.family_triple.specs.Places.{triples}
use Rattle.family_triple.specs.Tables.{Done, IsEnded}
use Rattle.family_triple.specs.Triples.{first_process}
use Rattle.family_triple.specs.Words.{writes_to, reads_from, IsAtRest}
use Rattle.family_triple.proofs.Calls.{sees_writes, sees_reads}

module _ {T : Type 0} where
  -- the seats of the first processes were parted off
  pub record DealtTo (id : TableId) (n : ℕ) (o : T) (who : ℕ) (rest : FamilySeat T (TripleSight T))
      (seats : List (TripleSeat T)) : Type 0 where
    pub table : rest.inner.table_id ≡ id
    pub me : rest.inner.me ≡ (Has (upto (first_process o n) who (n - who)), [])
    pub long : length seats ≡ who
    pub each : Each (IsFirst id n o) seats

  -- what the next one is
  pub next_me : (id : TableId) (n : ℕ) (o : T) (who : ℕ) (rest : FamilySeat T (TripleSight T)) (seats : List (TripleSeat T)) → who < n →
      DealtTo id n o who rest seats → rest.inner.me ≡ (Has (first_process o n who ∷ upto (first_process o n) (who + 1) (n - (who + 1))), [])
  next_me id n o who rest seats l h = h.me ∙ ap (λ ps. (Has ps, [])) (upto_next (first_process o n) who n l)

  -- one seat more is parted off, and took its slots
  pub dealt_more : (id : TableId) (n : ℕ) (o : T) (who : ℕ) (rest rest' : FamilySeat T (TripleSight T)) (seats : List (TripleSeat T))
      (s : TripleSeat T) → who < n → n ≤ 16 → DealtTo id n o who rest seats → rest'.inner.table_id ≡ rest.inner.table_id →
      rest'.inner.me ≡ (all_but_first rest.inner.me.0, rest.inner.me.1) → s.seat.inner.table_id ≡ rest.inner.table_id →
      IsReady o n who s.seat.inner.me → s.spare ≡ o → s.processes ≡ n → s.who ≡ who → s.stored.fills ≡ replicate 16 0 →
      s.stored.reads ≡ replicate 16 2 → DealtTo id n o (who + 1) rest' (seats ++ s ∷ [])
  dealt_more id n o who rest rest' seats s l most h table me mine ready opens many number fills reads =
      let now = next_me id n o who rest seats l h in
      let is : ready.process ≡ known_by s = sym (ap process_of ready.one) in
      let all : Process (TripleSight T) → Type 0 = λ z. (s.seat.inner.me.0 ≡ Has (z ∷ [])) × (z.who ≡ who)
      × IsAtRest o n z s.stored.fills s.stored.reads s.seat.inner.me.1 × IsUnused z.clock z.times (writes_to o n z) (reads_from o n z)
      z.said
      z.found in
      let k = subst all is (
        ready.one,
        ready.number,
        ready.rest s.stored.fills s.stored.reads (ap length fills) (ap length reads)
            (λ j lj. ap (λ xs. get_or xs j 0) fills ∙ get_or-replicate 16 j 0 0 (omega arith))
            (λ j lj. ap (λ xs. get_or xs j 0) reads ∙ get_or-replicate 16 j 2 0 (omega arith)),
        ready.unused,
      ) in record {
        table = table ∙ h.table;
        me = me ∙ ap (λ z. (all_but_first z.0, z.1)) now;
        long = length_push seats s ∙ (let e : length seats ≡ who = h.long in let z : length seats + 1 ≡ who + 1 = omega arith in z);
        each = each_more (IsFirst id n o) seats s h.each (subst (λ z. IsFirst id n o z s) (sym h.long) (record {
          table = mine ∙ h.table;
          opening = opens;
          processes = many;
          who = number;
          one = k.0;
          number = k.1;
          rest = k.2;
          unused = k.3;
        }));
      }

  -- such a seat is one of the family's, and unused
  pub first_seat : (f : TripleFamily T) (n : ℕ) (o : T) (i : ℕ) (s : TripleSeat T) → opening_of f ≡ o → processes_of f ≡ n →
      IsFirst f.table.rows.inner.shared.table_id n o i s →
      (IsSeat f s × (number_of s ≡ i)) × IsUnused (clock_of s) (times_of s) (writes_of s) (reads_of s) (said_of s) (found_of s)
  first_seat f n o i s opens many h = (
    (
      record {
        table = h.table;
        opening = h.opening ∙ sym opens;
        processes = h.processes ∙ sym many;
        one = h.one;
        who = h.number ∙ sym h.who;
        rest = subst (λ (z : T × ℕ). IsAtRest z.0 z.1 (known_by s) s.stored.fills s.stored.reads s.seat.inner.me.1)
            (λ k. (sym h.opening k, sym h.processes k)) h.rest;
      },
      h.who,
    ),
    subst (λ (z : T × ℕ). IsUnused (clock_of s) (times_of s) (writes_to z.0 z.1 (known_by s)) (reads_from z.0 z.1 (known_by s)) (said_of s)
        (found_of s))
        (λ k. (sym h.opening k, sym h.processes k)) h.unused,
  )

  -- what the table shows at the end, by the seats
  module _ (f : TripleFamily T) (seats : List (TripleSeat T)) (each : Each (λ i s. IsSeat f s × (number_of s ≡ i)) seats)
      (ps : List (Process (TripleSight T)))
      (there : (i : ℕ) (s : TripleSeat T) → slice_get seats i ≡ Some s → (a : ℕ) × (get_elem? ps a ≡ some (known_by s)))
      (ended : IsEnded (processes_of f) (opening_of f) ps) where
    pub all_scheduled : (steps : List ℕ) × IsSchedule (processes_of f) steps × Each (λ i s. times_of s ≡ positions 1 i steps) seats
    all_scheduled = (
      ended.steps,
      ended.within,
      λ i s e. let t = there i s e in let own = each i s e in
          ended.made t.0 (known_by s) t.1 ∙ ap (λ z. positions 1 z ended.steps) (own.0.who ∙ own.1),
    )

    pub all_say : length seats ≡ processes_of f → FindWhatWasSaid said_of found_of seats
    all_say many = all_found Spent (triples (processes_of f)) (Done (opening_of f)) (processes_of f) ps ended seats many
        (λ i s e. (each i s e).0.who ∙ (each i s e).1) there

    pub all_atomic : EachTwo (λ i j s t. IsAtomicCell (opening_of f) (writes_of s j) (reads_of t i)) seats
    all_atomic i j s t at_s at_t ne =
        let a = there i s at_s in
        let b = there j t at_t in
        let mine = each i s at_s in
        let theirs = each j t at_t in
        let n : ℕ = processes_of f in
        let v : Process (TripleSight T) = known_by s in
        let u : Process (TripleSight T) = known_by t in
        let who_s : v.who ≡ i = mine.0.who ∙ mine.1 in
        let who_t : u.who ≡ j = theirs.0.who ∙ theirs.1 in
        let li : i < s.processes = subst (λ z. z < s.processes) who_s mine.0.rest.inside in
        let lj : j < t.processes = subst (λ z. z < t.processes) who_t theirs.0.rest.inside in
        let same : t.processes ≡ s.processes = theirs.0.processes ∙ sym mine.0.processes in
        let row = mine.0.rest.row j (subst (λ z. j < z) same lj) (λ e. ne (sym (e ∙ who_s))) in
        let column = theirs.0.rest.column i (subst (λ z. i < z) (sym same) li) (λ e. ne (e ∙ who_t)) in
        let k : ℕ = place n i j in
        let inside : k < n * n = place_in n i j (subst (λ z. i < z) mine.0.processes li) (subst (λ z. j < z) theirs.0.processes lj)
        (λ e. ne (sym e)) in
        let writes : of_cell Spent k v.parts ≡ Writer row.notes =
        (λ x. of_cell Spent (place (sym mine.0.processes x) (sym who_s x) j) v.parts) ∙ row.is in
        let reads : of_cell Spent k u.parts ≡ Reader column.notes =
        (λ x. of_cell Spent (place (sym theirs.0.processes x) i (sym who_t x)) u.parts) ∙ column.is in
        let done = ended.cells a.0 b.0 v u a.1 b.1 k inside row.notes column.notes writes reads in
        let w = sees_writes s.spare s.processes v j row.notes (λ e. ne (sym (e ∙ who_s))) row.is in
        let r = sees_reads t.spare t.processes u i column.notes (λ e. ne (e ∙ who_t)) column.is in
        subst (λ (z : WriteAccesses T × ReadAccesses T). IsAtomicCell (opening_of f) z.0 z.1) (λ x. (sym w x, sym r x))
        (record { atomic = done.atomic; ended = done.ended; known = done.known })
