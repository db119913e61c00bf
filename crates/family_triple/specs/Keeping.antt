-- A process keeps to its plan where each cell's notes are of the kind that they were, and what it has done is of it.
-- So it does when it learns a receipt.
use Rattle.std.proofs.Common.{◌≡◌, ℕ, Bool, true, false, nat_eq, cond, refl, sym, ap, ◌∙◌, subst, arith}
use Rattle.cell_contract.specs.Accesses.{ReadAccesses, WriteAccesses}
use Rattle.cell_contract.specs.Plans.{Accesses, Doings}
use Rattle.cell_contract.specs.Sights.{writer_or, reader_or}
use Rattle.cell_contract.specs.declared.sight.Sight.TheVariants.{Spent, Told, Writer, Reader, Both}
use Rattle.cell_triple.specs.declared.notes.WriterNotes.{WriterNotes}
use Rattle.cell_triple.specs.declared.notes.ReaderNotes.{ReaderNotes}
use Rattle.cell_triple.specs.Steps.{TripleSight, first_writer, first_reader, receipt_for, hears_of}
use Rattle.family_table.specs.declared.notes.Process.{Process}
use Rattle.family_table.specs.declared.notes.Receipt.{Receipt}
use Rattle.family_table.specs.Family.{of_cell, heard_by}
use Rattle.family_table.specs.Places.{place}
use Rattle.family_table.proofs.Receipts.{heard_cell}
use Rattle.family_triple.specs.Cells.{deaf, mute}
use Rattle.family_triple.specs.Plans.{done_by, HasCells, TriplePlan}
use Rattle.family_triple.specs.Words.{writes_by, reads_by}

module _ {T : Type 0} where
  abbrev pub kind : TripleSight T → ℕ
  kind Spent = 0
  kind (Told x) = 1
  kind (Writer p) = 2
  kind (Reader g) = 3
  kind (Both p g) = 4

  writer_if : (x : TripleSight T) → kind x ≡ 2 → (p : WriterNotes T) × (x ≡ Writer p)
  writer_if Spent e = absurd (let z : 0 ≡ 2 = e in omega (arith, z))
  writer_if (Told x) e = absurd (let z : 1 ≡ 2 = e in omega (arith, z))
  writer_if (Writer p) e = (p, refl)
  writer_if (Reader g) e = absurd (let z : 3 ≡ 2 = e in omega (arith, z))
  writer_if (Both p g) e = absurd (let z : 4 ≡ 2 = e in omega (arith, z))

  reader_if : (x : TripleSight T) → kind x ≡ 3 → (g : ReaderNotes T) × (x ≡ Reader g)
  reader_if Spent e = absurd (let z : 0 ≡ 3 = e in omega (arith, z))
  reader_if (Told x) e = absurd (let z : 1 ≡ 3 = e in omega (arith, z))
  reader_if (Writer p) e = absurd (let z : 2 ≡ 3 = e in omega (arith, z))
  reader_if (Reader g) e = (g, refl)
  reader_if (Both p g) e = absurd (let z : 4 ≡ 3 = e in omega (arith, z))

  -- the accesses that contracts see of a cell's notes
  abbrev pub written_by : WriteAccesses T → Accesses T
  written_by w = record { items = w.items; begins = w.times.begins; ends = w.times.ends }

  abbrev pub answered_by : ReadAccesses T → Accesses T
  answered_by r = record { items = r.answers; begins = r.times.begins; ends = r.times.ends }

  abbrev pub seen_to : T → TripleSight T → Accesses T
  seen_to o z = written_by (writes_by (writer_or (first_writer o) z))

  abbrev pub seen_from : T → TripleSight T → Accesses T
  seen_from o z = answered_by (reads_by (reader_or (first_reader o) z))

  pub cells_kept : (n i : ℕ) (v u : Process (TripleSight T)) →
      ((at : ℕ) → kind (of_cell Spent at u.parts) ≡ kind (of_cell Spent at v.parts)) → HasCells n i v → HasCells n i u
  cells_kept n i v u same h = record {
    row = λ j lj ne. writer_if (of_cell Spent (place n i j) u.parts) (same (place n i j) ∙ ap kind (h.row j lj ne).1);
    column = λ j lj ne.
        reader_if (of_cell Spent (place n j i) u.parts) (same (place n j i) ∙ ap kind (h.column j lj ne).1);
  }

  kind_heard : (x y : TripleSight T) → kind (hears_of x y) ≡ kind x
  kind_heard (Reader g) (Told y) = refl
  kind_heard (Reader g) Spent = refl
  kind_heard (Reader g) (Writer p) = refl
  kind_heard (Reader g) (Reader k) = refl
  kind_heard (Reader g) (Both p k) = refl
  kind_heard Spent y = refl
  kind_heard (Told x) y = refl
  kind_heard (Writer p) y = refl
  kind_heard (Both p g) y = refl

  written_heard : (o : T) (x y : TripleSight T) → seen_to o (hears_of x y) ≡ seen_to o x
  written_heard o (Reader g) (Told y) = refl
  written_heard o (Reader g) Spent = refl
  written_heard o (Reader g) (Writer p) = refl
  written_heard o (Reader g) (Reader k) = refl
  written_heard o (Reader g) (Both p k) = refl
  written_heard o Spent y = refl
  written_heard o (Told x) y = refl
  written_heard o (Writer p) y = refl
  written_heard o (Both p g) y = refl

  answered_heard : (o : T) (x y : TripleSight T) → seen_from o (hears_of x y) ≡ seen_from o x
  answered_heard o (Reader g) (Told y) = refl
  answered_heard o (Reader g) Spent = refl
  answered_heard o (Reader g) (Writer p) = refl
  answered_heard o (Reader g) (Reader k) = refl
  answered_heard o (Reader g) (Both p k) = refl
  answered_heard o Spent y = refl
  answered_heard o (Told x) y = refl
  answered_heard o (Writer p) y = refl
  answered_heard o (Both p g) y = refl

  -- a part is seen as before where it is another process's, and nothing is seen of the own one
  seen_else : {A : Type 0} (seen : TripleSight T → A) (b : Bool) (x y : TripleSight T) → seen x ≡ seen y →
      seen (cond b Spent x) ≡ seen (cond b Spent y)
  seen_else seen true x y e = refl
  seen_else seen false x y e = e

  module _ (o : T) (n : ℕ) (v : Process (TripleSight T)) (r : Receipt (TripleSight T)) where
    abbrev u : Process (TripleSight T)
    u = heard_by hears_of v r

    part : (k : ℕ) → of_cell Spent k u.parts ≡ hears_of (of_cell Spent k v.parts) (of_cell Spent k r.parts)
    part k = heard_cell Spent receipt_for hears_of refl deaf mute k v.parts r.parts

    writes_heard : (j : ℕ) → (done_by o n u).writes j ≡ (done_by o n v).writes j
    writes_heard j = let at : ℕ = place n v.who j in
        seen_else (seen_to o) (nat_eq j v.who) (of_cell Spent at u.parts) (of_cell Spent at v.parts)
        (ap (seen_to o) (part at) ∙ written_heard o (of_cell Spent at v.parts) (of_cell Spent at r.parts))

    reads_heard : (j : ℕ) → (done_by o n u).reads j ≡ (done_by o n v).reads j
    reads_heard j = let at : ℕ = place n j v.who in
        seen_else (seen_from o) (nat_eq j v.who) (of_cell Spent at u.parts) (of_cell Spent at v.parts)
        (ap (seen_from o) (part at) ∙ answered_heard o (of_cell Spent at v.parts) (of_cell Spent at r.parts))

    same_heard : done_by o n u ≡ done_by o n v
    same_heard = λ z. record (done_by o n v) { writes = λ j. writes_heard j z; reads = λ j. reads_heard j z }

    pub plan_heard : (plan : T → ℕ → ℕ → ℕ → ℕ → Doings T → Type 0) (limit i : ℕ) →
        TriplePlan plan o limit n i v → TriplePlan plan o limit n i u
    plan_heard plan limit i h = (
      cells_kept n i v u
          (λ at. ap kind (part at) ∙ kind_heard (of_cell Spent at v.parts) (of_cell Spent at r.parts)) h.0,
      subst (plan o 1 n limit i) (sym same_heard) h.1,
    )
