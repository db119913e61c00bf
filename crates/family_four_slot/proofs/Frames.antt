-- A call on one cell leaves what contracts see of each other one.
use Rattle.std.proofs.Common.{◌≡◌, ◌≢◌, ℕ, ap, inl, inr}
use Rattle.cell_contract.specs.Sights.{writer_or, reader_or}
use Rattle.cell_four_slot.specs.declared.notes.WriterNotes.{WriterNotes}
use Rattle.cell_four_slot.specs.declared.notes.ReaderNotes.{ReaderNotes}
use Rattle.cell_contract.specs.declared.sight.Sight.TheVariants.{Spent}
use Rattle.cell_four_slot.specs.Steps.{FourSlotSight, first_writer, first_reader}
use Rattle.cell_contract.specs.Accesses.{WriteAccesses, ReadAccesses}
use Rattle.family_table.specs.declared.notes.Process.{Process}
use Rattle.family_table.specs.Family.{of_cell}
use Rattle.family_table.specs.Places.{place}
use Rattle.family_four_slot.specs.Words.{writes_to, reads_from}
use Rattle.family_table.proofs.Frames.{IsChanged}
use Rattle.family_table.proofs.Frames.{stays}

module _ {T : Type 0} (o : T) (n : ℕ) (v u : Process (FourSlotSight T)) (k : ℕ) (w : FourSlotSight T) (c : IsChanged Spent v u k w) where
  writes_by : WriterNotes T → WriteAccesses T
  writes_by p = record { items = p.written; times = p.times }

  reads_by : ReaderNotes T → ReadAccesses T
  reads_by g = record { answers = g.answers; numbers = g.numbers; known = g.known; told = g.told; heard = g.heard; times = g.times }

  pub other_writes : (j : ℕ) → (j ≢ v.who → place n v.who j ≢ k) → writes_to o n u j ≡ writes_to o n v j
  unfolding writes_by
  other_writes j away = ap writes_by (stays Spent (writer_or (first_writer o)) v u k w c (λ i j. place n i j) j (λ ne. inl (away ne)))

  pub other_reads : (j : ℕ) → (j ≢ v.who → place n j v.who ≢ k) → reads_from o n u j ≡ reads_from o n v j
  unfolding reads_by
  other_reads j away = ap reads_by (stays Spent (reader_or (first_reader o)) v u k w c (λ i j. place n j i) j (λ ne. inl (away ne)))

  pub same_writes : writer_or (first_writer o) w ≡ writer_or (first_writer o) (of_cell Spent k v.parts) → (j : ℕ) →
      writes_to o n u j ≡ writes_to o n v j
  unfolding writes_by
  same_writes same j = ap writes_by (stays Spent (writer_or (first_writer o)) v u k w c (λ i j. place n i j) j (λ ne. inr same))

  pub same_reads : reader_or (first_reader o) w ≡ reader_or (first_reader o) (of_cell Spent k v.parts) → (j : ℕ) →
      reads_from o n u j ≡ reads_from o n v j
  unfolding reads_by
  same_reads same j = ap reads_by (stays Spent (reader_or (first_reader o)) v u k w c (λ i j. place n j i) j (λ ne. inr same))
