-- A process learns a receipt: it knows of a later time, and was told one record more by the sender. All else stays.
use Rattle.std.proofs.Common.{◌≡◌, ◌≢◌, ℕ, ◌+◌, ◌*◌, ◌<◌, ◌≤◌, cond, List, length, get_or, refl, sym, ap, ◌∙◌, subst, arith, ⊎_elim}
use Rattle.std.proofs.Common.{mul-le-mul_right}
use Rattle.std.proofs.lemmas.Bool.{cases_eq, cases_lt}
use Rattle.cell_contract.specs.Running.{snap}
use Rattle.cell_contract.specs.Sights.{writer_or, reader_or}
use Rattle.cell_contract.specs.declared.times.Dated.{Dated}
use Rattle.cell_four_slot.specs.declared.notes.WriterNotes.{WriterNotes}
use Rattle.cell_four_slot.specs.declared.notes.ReaderNotes.{ReaderNotes}
use Rattle.cell_contract.specs.declared.sight.Sight.TheVariants.{Spent, Told, Writer, Reader, Both}
use Rattle.cell_four_slot.specs.Steps.{FourSlotSight, first_writer, first_reader, receipt_for, heard_by as cell_heard, hears_of}
use Rattle.cell_contract.specs.Accesses.{IsHeardRead, KeepsEach, KeepsOthers, ReadAccesses}
use Rattle.family_four_slot.specs.declared.family.Stored.{Stored}
use Rattle.family_table.specs.declared.notes.Process.{Process}
use Rattle.family_table.specs.declared.notes.Receipt.{Receipt}
use Rattle.family_table.specs.Family.{of_cell, heard_by}
use Rattle.family_four_slot.specs.FourSlots.{Idle}
use Rattle.family_table.specs.Places.{place, writer_of}
use Rattle.family_four_slot.specs.Words.{writes_to, reads_from, IsAtRest, IsColumn}
use Rattle.family_four_slot.proofs.Calls.{sees_reads}
use Rattle.family_four_slot.specs.Cells.{deaf, mute}
use Rattle.family_table.proofs.Seats.{same_number}
use Rattle.family_table.proofs.Places.{writer_there}
use Rattle.family_table.proofs.Receipts.{heard_cell}
use Rattle.family_table.proofs.Seats.{differ}
use Rattle.family_table.proofs.Slices.{past}
use Rattle.family_table.proofs.Receipts.{heard_long}

module _ {T : Type 0} where
  idle_heard : (x y : FourSlotSight T) → Idle x → Idle (hears_of x y)
  idle_heard (Reader g) (Told y) h = h
  idle_heard (Reader g) Spent h = h
  idle_heard (Reader g) (Writer p) h = h
  idle_heard (Reader g) (Reader k) h = h
  idle_heard (Reader g) (Both p k) h = h
  idle_heard Spent y h = h
  idle_heard (Told x) y h = h
  idle_heard (Writer p) y h = h
  idle_heard (Both p g) y h = h

  quiet_heard : (x y : FourSlotSight T) → receipt_for x ≡ Spent → receipt_for (hears_of x y) ≡ Spent
  quiet_heard (Reader g) (Told y) h = refl
  quiet_heard (Reader g) Spent h = h
  quiet_heard (Reader g) (Writer p) h = h
  quiet_heard (Reader g) (Reader k) h = h
  quiet_heard (Reader g) (Both p k) h = h
  quiet_heard Spent y h = h
  quiet_heard (Told x) y h = h
  quiet_heard (Writer p) y h = h
  quiet_heard (Both p g) y h = h

  writes_heard : (d : WriterNotes T) (x y : FourSlotSight T) → writer_or d (hears_of x y) ≡ writer_or d x
  writes_heard d (Reader g) (Told y) = refl
  writes_heard d (Reader g) Spent = refl
  writes_heard d (Reader g) (Writer p) = refl
  writes_heard d (Reader g) (Reader k) = refl
  writes_heard d (Reader g) (Both p k) = refl
  writes_heard d Spent y = refl
  writes_heard d (Told x) y = refl
  writes_heard d (Writer p) y = refl
  writes_heard d (Both p g) y = refl

  column_heard : (o : T) (k : ℕ) (part y : FourSlotSight T) (slot : ℕ) (cs : List (ℕ × T)) → (c : IsColumn o k part slot cs) →
      IsColumn o k (hears_of (Reader c.notes) y) slot cs
  column_heard o k part (Told x) slot cs c = record {
    notes = cell_heard c.notes x.value;
    is = refl;
    idle = c.idle;
    opened = c.opened;
    slots = c.slots;
    chosen = c.chosen;
    last = c.last;
  }
  column_heard o k part Spent slot cs c = subst (λ z. IsColumn o k z slot cs) c.is c
  column_heard o k part (Writer q) slot cs c = subst (λ z. IsColumn o k z slot cs) c.is c
  column_heard o k part (Reader q) slot cs c = subst (λ z. IsColumn o k z slot cs) c.is c
  column_heard o k part (Both q h) slot cs c = subst (λ z. IsColumn o k z slot cs) c.is c

  module _ (o : T) (n : ℕ) (v : Process (FourSlotSight T)) (r : Receipt (FourSlotSight T)) (kept : Stored) (cs : List (ℕ × T))
      (rest : IsAtRest o n v kept cs) where
    abbrev u : Process (FourSlotSight T)
    u = heard_by hears_of v r

    part : (k : ℕ) → of_cell Spent k u.parts ≡ hears_of (of_cell Spent k v.parts) (of_cell Spent k r.parts)
    part k = heard_cell Spent receipt_for hears_of refl deaf mute k v.parts r.parts

    pub rest_heard : IsAtRest o n u kept cs
    rest_heard = record {
      inside = rest.inside;
      parts = heard_long hears_of v.parts r.parts ∙ rest.parts;
      held = rest.held;
      idle = λ k. subst Idle (sym (part k)) (idle_heard (of_cell Spent k v.parts) (of_cell Spent k r.parts) (rest.idle k));
      quiet = λ k nw. ap receipt_for (part k) ∙ quiet_heard (of_cell Spent k v.parts) (of_cell Spent k r.parts) (rest.quiet k nw);
      long = rest.long;
      row = λ j lj ne.
          let k : ℕ = place n v.who j in
          let w = rest.row j lj ne in record {
            notes = w.notes;
            is = part k ∙ ap (λ z. hears_of z (of_cell Spent k r.parts)) w.is;
            idle = w.idle;
            opened = w.opened;
            newest = w.newest;
            bits = w.bits;
            shown = w.shown;
          };
      column = λ j lj ne.
          let k : ℕ = place n j v.who in
          let g = rest.column j lj ne in
          subst (λ z. IsColumn o k z (get_or kept.reads j 0) cs) (sym (part k ∙ ap (λ z. hears_of z (of_cell Spent k r.parts)) g.is))
          (column_heard o k (of_cell Spent k v.parts) (of_cell Spent k r.parts) (get_or kept.reads j 0) cs g);
    }

    pub writes_stay : KeepsEach (writes_to o n v) (writes_to o n u)
    writes_stay j =
        let at : ℕ = place n v.who j in
        let d : WriterNotes T = first_writer o in
        ap (λ (p : WriterNotes T). record { items = p.written; times = p.times })
        (⊎_elim
        (λ (e : j ≡ v.who). let t = same_number j v.who e in
        ap (λ b. writer_or d (cond b Spent (of_cell Spent at u.parts))) t
        ∙ sym (ap (λ b. writer_or d (cond b Spent (of_cell Spent at v.parts))) t))
        (λ (ne : j ≢ v.who). let t = differ j v.who ne in
        ap (λ b. writer_or d (cond b Spent (of_cell Spent at u.parts))) t
        ∙ ((ap (writer_or d) (part at) ∙ writes_heard d (of_cell Spent at v.parts) (of_cell Spent at r.parts))
        ∙ sym (ap (λ b. writer_or d (cond b Spent (of_cell Spent at v.parts))) t)))
        (cases_eq j v.who))

    module _ (from : ℕ) (lf : from < n) where
      module _ (elsewhere : (k : ℕ) → writer_of n k ≢ from → of_cell Spent k r.parts ≡ Spent) where
        stays : (j : ℕ) → j ≢ from → j ≢ v.who → of_cell Spent (place n j v.who) u.parts ≡ of_cell Spent (place n j v.who) v.parts
        stays j nf ne =
            let k : ℕ = place n j v.who in
            part k ∙ ⊎_elim
            (λ (l : j < n).
            let none_there = elsewhere k (λ e. nf (sym (writer_there n j v.who l rest.inside (λ q. ne (sym q))) ∙ e)) in
            ap (hears_of (of_cell Spent k v.parts)) none_there ∙ deaf (of_cell Spent k v.parts))
            (λ (l : n ≤ j).
            let high : n * n ≤ j * n = mul-le-mul_right n l in
            let parts : length v.parts ≡ n * n = rest.parts in
            let above : length v.parts ≤ j * n + v.who = omega arith in
            let blank = past v.parts k Spent above in
            ap (λ z. hears_of z (of_cell Spent k r.parts)) blank ∙ sym blank)
            (cases_lt j n)

        pub others_stay : KeepsOthers from (reads_from o n v) (reads_from o n u)
        others_stay j nf =
            let at : ℕ = place n j v.who in
            let d : ReaderNotes T = first_reader o in
            ap (λ (g : ReaderNotes T).
            record { answers = g.answers; numbers = g.numbers; known = g.known; told = g.told; heard = g.heard; times = g.times })
            (⊎_elim
            (λ (e : j ≡ v.who). let t = same_number j v.who e in
            ap (λ b. reader_or d (cond b Spent (of_cell Spent at u.parts))) t
            ∙ sym (ap (λ b. reader_or d (cond b Spent (of_cell Spent at v.parts))) t))
            (λ (ne : j ≢ v.who). let t = differ j v.who ne in
            ap (λ b. reader_or d (cond b Spent (of_cell Spent at u.parts))) t
            ∙ (ap (reader_or d) (stays j nf ne) ∙ sym (ap (λ b. reader_or d (cond b Spent (of_cell Spent at v.parts))) t)))
            (cases_eq j v.who))

      pub is_heard : (x : Dated T) → from ≢ v.who → of_cell Spent (place n from v.who) r.parts ≡ Told (snap x) →
          IsHeardRead (reads_from o n v from) (reads_from o n u from) x.item x.writes
      is_heard x ne told =
          let k : ℕ = place n from v.who in
          let column = rest.column from lf ne in
          let g : ReaderNotes T = column.notes in
          let h : ReaderNotes T = cell_heard g x in
          let now : of_cell Spent k u.parts ≡ Reader h = part k ∙ (λ i. hears_of (column.is i) (told i)) in
          let before = sees_reads o n v v.who from g ne refl column.is in
          let after = sees_reads o n u v.who from h ne refl now in
          subst (λ (z : ReadAccesses T × ReadAccesses T). IsHeardRead z.0 z.1 x.item x.writes) (λ i. (sym before i, sym after i)) (record {
            told = refl;
            heard = refl;
            answers = refl;
            numbers = refl;
            known = refl;
            begins = refl;
            ends = refl;
          })
