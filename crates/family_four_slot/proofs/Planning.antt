-- What the plan says of a whole access is what each of its steps owes: after so many steps it is the access as far as it has come.
use Rattle.std.proofs.Common.{◌≡◌, ◌≢◌, ℕ, ◌<◌, Bool, List, [], ◌∷◌, ◌++◌, append-nil, length, slice_get, refl, sym, ap, ◌∙◌, subst}
use Rattle.std.proofs.Common.{arith}
use Rattle.cell_contract.specs.Accesses.{ReadAccesses, WriteAccesses}
use Rattle.cell_contract.specs.Plans.{Doings, if_there, MayRead, MayWrite, ReadsSoFar, WritesSoFar}
use Rattle.cell_contract.specs.Sights.{writer_or, reader_or}
use Rattle.cell_contract.specs.declared.sight.Sight.TheVariants.{Spent, Writer, Reader}
use Rattle.cell_four_slot.specs.declared.notes.WriterNotes.{WriterNotes}
use Rattle.cell_four_slot.specs.declared.notes.ReaderNotes.{ReaderNotes}
use Rattle.cell_four_slot.specs.Steps.{FourSlotSight, first_writer, first_reader}
use Rattle.cell_four_slot.specs.Steps.{begun_with, stored_by, finished_with, asked_by, said_with, got_by}
use Rattle.family_table.specs.declared.notes.Process.{Process}
use Rattle.family_table.specs.Family.{knows, of_cell}
use Rattle.family_table.specs.Places.{place}
use Rattle.family_table.specs.Seated.{known_by, number_of}
use Rattle.family_table.proofs.Frames.{IsChanged, changed, changed_again}
use Rattle.family_table.proofs.Places.{column_apart, row_apart}
use Rattle.family_four_slot.specs.declared.family.FourSlotFamily.{FourSlotFamily}
use Rattle.family_four_slot.specs.Plans.{done_by, plan_of, DoesAsPlanned, MayBegin, MayLook, MayPublish, MayTake}
use Rattle.family_four_slot.specs.Seated.{FourSlotSeat, opening_of, processes_of, limit_of, IsSeat, doings_of}
use Rattle.family_four_slot.proofs.Calls.{sees_reads, sees_writes}
use Rattle.family_four_slot.proofs.Frames.{other_reads, other_writes, same_reads, same_writes}
use Rattle.family_four_slot.proofs.Going.{apart, column_at, column_long, column_place, row_at, row_long, row_place}
use Rattle.family_four_slot.proofs.Going.{within}

two_more : (xs : List ℕ) (a b : ℕ) → (xs ++ a ∷ []) ++ b ∷ [] ≡ xs ++ a ∷ b ∷ []
two_more [] a b = refl
two_more (x ∷ xs) a b = ap (λ zs. x ∷ zs) (two_more xs a b)

three_more : (xs : List ℕ) (a b c : ℕ) → ((xs ++ a ∷ []) ++ b ∷ []) ++ c ∷ [] ≡ xs ++ a ∷ b ∷ c ∷ []
three_more [] a b c = refl
three_more (x ∷ xs) a b c = ap (λ zs. x ∷ zs) (three_more xs a b c)

module _ {T : Type 0} (o : T) (n j : ℕ) (v u : Process (FourSlotSight T)) (made : ℕ) (steps : List ℕ) (long : length steps ≡ made)
    (times : u.times ≡ v.times ++ steps) (tags : (u.said ≡ v.said) × (u.found ≡ v.found)) (ne : j ≢ v.who) where
  -- a write to process j
  write_so_far : (p q : WriterNotes T) (x : T) → IsChanged Spent v u (place n v.who j) (Writer q) →
      of_cell Spent (place n v.who j) v.parts ≡ Writer p → q.written ≡ p.written ++ x ∷ [] →
      q.times.begins ≡ p.times.begins ++ if_there (slice_get steps 0) → q.times.ends ≡ p.times.ends ++ if_there (slice_get steps 2) →
      WritesSoFar 3 made x j (done_by o n v) (done_by o n u)
  write_so_far p q x c is items begins ends =
      let before = sees_writes o n v v.who j p ne refl is in
      let after = sees_writes o n u v.who j q ne c.who c.here in record {
        steps = steps;
        long = long;
        times = times;
        items = ap (λ (z : WriteAccesses T). z.items) after ∙ (items ∙ ap (λ (z : WriteAccesses T). z.items ++ x ∷ []) (sym before));
        begins = ap (λ (z : WriteAccesses T). z.times.begins) after
            ∙ (begins ∙ ap (λ (z : WriteAccesses T). z.times.begins ++ if_there (slice_get steps 0)) (sym before));
        ends = ap (λ (z : WriteAccesses T). z.times.ends) after
            ∙ (ends ∙ ap (λ (z : WriteAccesses T). z.times.ends ++ if_there (slice_get steps 2)) (sym before));
        others = (
          λ i di. ap (λ (z : WriteAccesses T). record { items = z.items; begins = z.times.begins; ends = z.times.ends })
              (other_writes o n v u (place n v.who j) (Writer q) c i (λ nw e. di (row_apart n v.who i j nw ne e))),
          λ i. ap (λ (z : ReadAccesses T). record { items = z.answers; begins = z.times.begins; ends = z.times.ends })
              (same_reads o n v u (place n v.who j) (Writer q) c (ap (reader_or (first_reader o)) (sym is)) i),
        );
        tags = tags;
      }

  -- a read of process j
  read_so_far : (g h : ReaderNotes T) (answers : List T) → j < n → v.who < n → IsChanged Spent v u (place n j v.who) (Reader h) →
      of_cell Spent (place n j v.who) v.parts ≡ Reader g → h.answers ≡ g.answers ++ answers →
      h.times.begins ≡ g.times.begins ++ if_there (slice_get steps 0) → h.times.ends ≡ g.times.ends ++ if_there (slice_get steps 2) →
      ReadsSoFar 3 made j (done_by o n v) (done_by o n u)
  read_so_far g h answers lj li c is items begins ends =
      let before = sees_reads o n v v.who j g ne refl is in
      let after = sees_reads o n u v.who j h ne c.who c.here in record {
        steps = steps;
        long = long;
        times = times;
        answers = answers;
        items = ap (λ (z : ReadAccesses T). z.answers) after ∙ (items ∙ ap (λ (z : ReadAccesses T). z.answers ++ answers) (sym before));
        begins = ap (λ (z : ReadAccesses T). z.times.begins) after
            ∙ (begins ∙ ap (λ (z : ReadAccesses T). z.times.begins ++ if_there (slice_get steps 0)) (sym before));
        ends = ap (λ (z : ReadAccesses T). z.times.ends) after
            ∙ (ends ∙ ap (λ (z : ReadAccesses T). z.times.ends ++ if_there (slice_get steps 2)) (sym before));
        others = (
          λ i di. ap (λ (z : ReadAccesses T). record { items = z.answers; begins = z.times.begins; ends = z.times.ends })
              (other_reads o n v u (place n j v.who) (Reader h) c i (λ nw e. di (column_apart n i j v.who lj li ne nw e))),
          λ i. ap (λ (z : WriteAccesses T). record { items = z.items; begins = z.times.begins; ends = z.times.ends })
              (same_writes o n v u (place n j v.who) (Reader h) c (ap (writer_or (first_writer o)) (sym is)) i),
        );
        tags = tags;
      }

module _ {T : Type 0} (o : T) (n : ℕ) (plan : ℕ → Doings T → Type 0) (j : ℕ) (v : Process (FourSlotSight T)) (ne : j ≢ v.who) where
  abbrev V : Type 0
  V = FourSlotSight T

  abbrev Plan : ℕ → Process V → Type 0
  Plan i u = plan i (done_by o n u)

  module _ (p : WriterNotes T) (x : T) (has : place n v.who j < length v.parts) (is : of_cell Spent (place n v.who j) v.parts ≡ Writer p)
      (may : MayWrite (plan v.who) 3 x j (done_by o n v)) where
    abbrev k : ℕ
    k = place n v.who j

    pub may_begin : MayBegin Plan k v p x
    may_begin b t h l =
        let q : WriterNotes T = begun_with p b x t in
        let u : Process V = knows Spent v k (Writer q) t h in
        may 1 (done_by o n u) (omega arith) (omega arith)
        (write_so_far o n j v u 1 (t ∷ []) refl refl (refl, refl) ne p q x (changed Spent v k t (Writer q) h has) is refl refl
        (sym (append-nil p.times.ends)))

    pub may_publish : (b : Bool) (t : ℕ) (h : List ℕ) →
        MayPublish Plan k (knows Spent v k (Writer (begun_with p b x t)) t h) (begun_with p b x t)
    may_publish b t h =
        let q1 : WriterNotes T = begun_with p b x t in
        let u1 : Process V = knows Spent v k (Writer q1) t h in
        let c1 = changed Spent v k t (Writer q1) h has in (
          (λ t2 h2 l2.
              let q2 : WriterNotes T = stored_by q1 t2 in
              let u2 : Process V = knows Spent u1 k (Writer q2) t2 h2 in
              may 2 (done_by o n u2) (omega arith) (omega arith)
              (write_so_far o n j v u2 2 (t ∷ t2 ∷ []) refl (two_more v.times t t2) (refl, refl) ne p q2 x
              (changed_again Spent v u1 k t2 (Writer q1) (Writer q2) h2 has c1) is refl refl (sym (append-nil p.times.ends)))),
          (λ t2 h2 l2 count t3 h3 l3.
              let q2 : WriterNotes T = stored_by q1 t2 in
              let u2 : Process V = knows Spent u1 k (Writer q2) t2 h2 in
              let c2 = changed_again Spent v u1 k t2 (Writer q1) (Writer q2) h2 has c1 in
              let q3 : WriterNotes T = finished_with q2 count t3 in
              let u3 : Process V = knows Spent u2 k (Writer q3) t3 h3 in
              may 3 (done_by o n u3) (omega arith) (omega arith)
              (write_so_far o n j v u3 3 (t ∷ t2 ∷ t3 ∷ []) refl (three_more v.times t t2 t3) (refl, refl) ne p q3 x
              (changed_again Spent v u2 k t3 (Writer q2) (Writer q3) h3 has c2) is refl refl refl)),
        )

  module _ (g : ReaderNotes T) (lj : j < n) (li : v.who < n) (has : place n j v.who < length v.parts)
      (is : of_cell Spent (place n j v.who) v.parts ≡ Reader g) (may : MayRead (plan v.who) 3 j (done_by o n v)) where
    abbrev c : ℕ
    c = place n j v.who

    pub may_look : MayLook Plan c v g
    may_look = (
      (λ b t h l.
          let g1 : ReaderNotes T = asked_by g b t in
          let u1 : Process V = knows Spent v c (Reader g1) t h in
          may 1 (done_by o n u1) (omega arith) (omega arith)
          (read_so_far o n j v u1 1 (t ∷ []) refl refl (refl, refl) ne g g1 [] lj li (changed Spent v c t (Reader g1) h has) is
          (sym (append-nil g.answers)) refl (sym (append-nil g.times.ends)))),
      (λ b t h l. (
        (λ count t2 h2 l2.
            let g1 : ReaderNotes T = asked_by g b t in
            let u1 : Process V = knows Spent v c (Reader g1) t h in
            let c1 = changed Spent v c t (Reader g1) h has in
            let g2 : ReaderNotes T = said_with g1 count t2 in
            let u2 : Process V = knows Spent u1 c (Reader g2) t2 h2 in
            may 2 (done_by o n u2) (omega arith) (omega arith)
            (read_so_far o n j v u2 2 (t ∷ t2 ∷ []) refl (two_more v.times t t2) (refl, refl) ne g g2 [] lj li
            (changed_again Spent v u1 c t2 (Reader g1) (Reader g2) h2 has c1) is
            (sym (append-nil g.answers)) refl (sym (append-nil g.times.ends)))),
        (λ count t2 h2 l2. may_take b t h count t2 h2),
      )),
    ) where
      may_take : (b : Bool) (t : ℕ) (h : List ℕ) (count t2 : ℕ) (h2 : List ℕ) → MayTake Plan c
          (knows Spent (knows Spent v c (Reader (asked_by g b t)) t h) c (Reader (said_with (asked_by g b t) count t2)) t2 h2)
          (said_with (asked_by g b t) count t2)
      may_take b t h count t2 h2 bit x t3 number writes h3 l3 =
          let g1 : ReaderNotes T = asked_by g b t in
          let u1 : Process V = knows Spent v c (Reader g1) t h in
          let c1 = changed Spent v c t (Reader g1) h has in
          let g2 : ReaderNotes T = said_with g1 count t2 in
          let u2 : Process V = knows Spent u1 c (Reader g2) t2 h2 in
          let c2 = changed_again Spent v u1 c t2 (Reader g1) (Reader g2) h2 has c1 in
          let g3 : ReaderNotes T = got_by g2 bit x t3 number writes in
          let u3 : Process V = knows Spent u2 c (Reader g3) t3 h3 in
          may 3 (done_by o n u3) (omega arith) (omega arith)
          (read_so_far o n j v u3 3 (t ∷ t2 ∷ t3 ∷ []) refl (three_more v.times t t2 t3) (refl, refl) ne g g3 (x ∷ []) lj li
          (changed_again Spent v u2 c t3 (Reader g2) (Reader g3) h3 has c2) is refl refl refl)

-- the same of a seat, by the words of its family
module _ {T : Type 0} (plan : T → ℕ → ℕ → ℕ → ℕ → Doings T → Type 0) (f : FourSlotFamily T) (s : FourSlotSeat T) (own : IsSeat f s)
    (j : ℕ) (other : (j < processes_of f) × (j ≢ number_of s)) (cell : ℕ) where
  abbrev W : Type 0
  W = FourSlotSight T

  abbrev OfFamily : ℕ → Process W → Type 0
  OfFamily = plan_of plan f.table.rows.inner.shared.key

  module _ (x : T) (at : cell ≡ place s.processes s.who j)
      (may : MayWrite (plan (opening_of f) 3 (processes_of f) (limit_of f) (number_of s)) 3 x j
      (doings_of s)) where
    mine_to_write : MayWrite (plan s.spare 3 s.processes (limit_of f) (known_by s).who) 3 x j (done_by s.spare s.processes (known_by s))
    mine_to_write = subst (λ (z : T × ℕ × ℕ). MayWrite (plan z.0 3 z.1 (limit_of f) z.2) 3 x j
        (done_by s.spare s.processes (known_by s))) (λ i. (sym own.opening i, sym own.processes i, sym own.who i)) may

    row_has : place s.processes (known_by s).who j < length (known_by s).parts
    row_has = subst (λ z. z < length (known_by s).parts) (row_place f s own j other cell at) (row_long f s own j other cell at)

    pub seat_may_begin : MayBegin OfFamily cell (known_by s) (row_at f s own j other).notes x
    seat_may_begin =
        let p : WriterNotes T = (row_at f s own j other).notes in
        subst (λ (z : T × ℕ × ℕ). MayBegin (DoesAsPlanned plan z.0 (limit_of f) z.1) z.2 (known_by s) p x)
        (λ i. (own.opening i, own.processes i, sym (row_place f s own j other cell at) i))
        (may_begin s.spare s.processes (plan s.spare 3 s.processes (limit_of f)) j (known_by s) (apart f s own j other) p x row_has
        (row_at f s own j other).is mine_to_write)

    pub seat_may_publish : (b : Bool) (t : ℕ) (h : List ℕ) →
        let p : WriterNotes T = (row_at f s own j other).notes in
        MayPublish OfFamily cell (knows Spent (known_by s) cell (Writer (begun_with p b x t)) t h) (begun_with p b x t)
    seat_may_publish b t h =
        let p : WriterNotes T = (row_at f s own j other).notes in
        subst (λ (z : T × ℕ × ℕ). MayPublish (DoesAsPlanned plan z.0 (limit_of f) z.1) z.2
        (knows Spent (known_by s) z.2 (Writer (begun_with p b x t)) t h) (begun_with p b x t))
        (λ i. (own.opening i, own.processes i, sym (row_place f s own j other cell at) i))
        (may_publish s.spare s.processes (plan s.spare 3 s.processes (limit_of f)) j (known_by s) (apart f s own j other) p x row_has
        (row_at f s own j other).is mine_to_write b t h)

  module _ (at : cell ≡ place s.processes j s.who)
      (may : MayRead (plan (opening_of f) 3 (processes_of f) (limit_of f) (number_of s)) 3 j
      (doings_of s)) where
    mine_to_read : MayRead (plan s.spare 3 s.processes (limit_of f) (known_by s).who) 3 j (done_by s.spare s.processes (known_by s))
    mine_to_read = subst (λ (z : T × ℕ × ℕ). MayRead (plan z.0 3 z.1 (limit_of f) z.2) 3 j
        (done_by s.spare s.processes (known_by s))) (λ i. (sym own.opening i, sym own.processes i, sym own.who i)) may

    column_has : place s.processes j (known_by s).who < length (known_by s).parts
    column_has = subst (λ z. z < length (known_by s).parts) (column_place f s own j other cell at) (column_long f s own j other cell at)

    pub seat_may_look : MayLook OfFamily cell (known_by s) (column_at f s own j other).notes
    seat_may_look =
        let g : ReaderNotes T = (column_at f s own j other).notes in
        subst (λ (z : T × ℕ × ℕ). MayLook (DoesAsPlanned plan z.0 (limit_of f) z.1) z.2 (known_by s) g)
        (λ i. (own.opening i, own.processes i, sym (column_place f s own j other cell at) i))
        (may_look s.spare s.processes (plan s.spare 3 s.processes (limit_of f)) j (known_by s) (apart f s own j other) g
        (within f s own j other) own.rest.inside column_has (column_at f s own j other).is mine_to_read)
