-- A step makes a writer's notes of a writer's and a reader's of a reader's, so each process keeps its row and its column.
use Rattle.std.proofs.Common.{◌≡◌, ◌≢◌, ℕ, ◌<◌, List, length, set, sym, subst, ⊎_elim}
use Rattle.std.proofs.lemmas.Bool.{cases_eq}
use Rattle.cell_contract.specs.declared.sight.Sight.TheVariants.{Spent, Writer, Reader}
use Rattle.cell_four_slot.specs.declared.notes.WriterNotes.{WriterNotes}
use Rattle.cell_four_slot.specs.declared.notes.ReaderNotes.{ReaderNotes}
use Rattle.cell_four_slot.specs.Steps.{FourSlotSight}
use Rattle.family_table.specs.declared.notes.Process.{Process}
use Rattle.family_table.specs.Family.{knows, of_cell}
use Rattle.family_table.specs.Places.{place}
use Rattle.family_table.proofs.Slices.{get_set_else, get_set_here}
use Rattle.family_four_slot.specs.FourSlots.{IsInShape}

module _ {T : Type 0} where
  abbrev pub Writes : FourSlotSight T → Type 0
  Writes u = (p : WriterNotes T) × (u ≡ Writer p)

  abbrev pub Reads : FourSlotSight T → Type 0
  Reads u = (g : ReaderNotes T) × (u ≡ Reader g)

  abbrev pub SameKind : FourSlotSight T → FourSlotSight T → Type 0
  SameKind u w = (Writes u → Writes w) × (Reads u → Reads w)

  is_writer : FourSlotSight T → Type 0
  is_writer (Writer p) = Unit {0}
  is_writer _ = ⊥

  apart : (p : WriterNotes T) (g : ReaderNotes T) → ◌≡◌ {A = FourSlotSight T} (Writer p) (Reader g) → ⊥
  unfolding is_writer
  apart p g e = subst is_writer e tt

  pub both_write : (p q : WriterNotes T) (w : FourSlotSight T) → w ≡ Writer q → SameKind (Writer p) w
  both_write p q w e = ((λ h. (q, e)), (λ h. absurd (apart p h.0 h.1)))

  pub both_read : (g h : ReaderNotes T) (w : FourSlotSight T) → w ≡ Reader h → SameKind (Reader g) w
  both_read g h w e = ((λ k. absurd (apart k.0 g (sym k.1))), (λ k. (h, e)))

  at_cell : (P : FourSlotSight T → Type 0) (v : Process (FourSlotSight T)) (k c : ℕ) (w : FourSlotSight T) → k < length v.parts →
      (P (of_cell Spent k v.parts) → P w) → P (of_cell Spent c v.parts) → P (of_cell Spent c (set v.parts k w))
  at_cell P v k c w has keeps h = ⊎_elim
      (λ (e : c ≡ k). subst (λ z. P (of_cell Spent z (set v.parts k w))) (sym e)
      (subst P (sym (get_set_here v.parts k w Spent has)) (keeps (subst (λ z. P (of_cell Spent z v.parts)) e h))))
      (λ (ne : c ≢ k). subst P (sym (get_set_else v.parts k c w Spent ne)) h)
      (cases_eq c k)

  pub shape_after : (n i k t : ℕ) (v : Process (FourSlotSight T)) (w : FourSlotSight T) (held : List ℕ) → k < length v.parts →
      SameKind (of_cell Spent k v.parts) w → IsInShape n i v → IsInShape n i (knows Spent v k w t held)
  shape_after n i k t v w held has same s = record {
    row = λ j lj ne. at_cell Writes v k (place n i j) w has same.0 (s.row j lj ne);
    column = λ j lj ne. at_cell Reads v k (place n j i) w has same.1 (s.column j lj ne);
  }
