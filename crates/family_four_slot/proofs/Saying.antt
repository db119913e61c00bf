-- A process between two calls is so still with other words and times.
use Rattle.std.proofs.Common.{◌≡◌, ℕ, List, [], ◌∷◌, refl, ap}
use Rattle.cell_contract.specs.declared.said.Said.{Said}
use Rattle.cell_contract.specs.declared.said.Found.{Found}
use Rattle.cell_four_slot.specs.Steps.{FourSlotSight}
use Rattle.family_table.specs.declared.notes.Process.{Process}
use Rattle.family_table.specs.declared.notes.View.TheVariants.{Has}
use Rattle.family_table.specs.declared.table.FamilySeat.{FamilySeat}
use Rattle.family_table.specs.Seated.{known_by}
use Rattle.family_table.proofs.Looked.{with_words}
use Rattle.family_four_slot.specs.declared.family.FourSlotFamily.{FourSlotFamily}
use Rattle.family_four_slot.specs.declared.family.Stored.{Stored}
use Rattle.family_four_slot.specs.FourSlots.{IsInShape}
use Rattle.family_four_slot.specs.Seated.{FourSlotSeat, IsSeat}
use Rattle.family_four_slot.specs.Words.{IsAtRest, reads_from, writes_to}
use Rattle.family_four_slot.proofs.Going.{seat_after}

module _ {T : Type 0} where
  rests : (o : T) (n : ℕ) (v : Process (FourSlotSight T)) (kept : Stored) (cs : List (ℕ × T)) (clock : ℕ) (times : List ℕ)
      (said : List Said) (found : List Found) → IsAtRest o n v kept cs → IsAtRest o n (with_words v clock times said found) kept cs
  rests o n v kept cs clock times said found rest = record {
    inside = rest.inside;
    parts = rest.parts;
    held = rest.held;
    idle = rest.idle;
    quiet = rest.quiet;
    long = rest.long;
    row = rest.row;
    column = rest.column;
  }

  pub kept : (o : T) (n : ℕ) (v : Process (FourSlotSight T)) (clock : ℕ) (times : List ℕ) (said : List Said) (found : List Found) (j : ℕ) →
      (writes_to o n (with_words v clock times said found) j ≡ writes_to o n v j)
      × (reads_from o n (with_words v clock times said found) j ≡ reads_from o n v j)
  kept o n v clock times said found j = (refl, refl)

  pub shaped : (n i : ℕ) (v : Process (FourSlotSight T)) (clock : ℕ) (times : List ℕ) (said : List Said) (found : List Found) →
      IsInShape n i v → IsInShape n i (with_words v clock times said found)
  shaped n i v clock times said found h = record { row = h.row; column = h.column }

  pub still : (f : FourSlotFamily T) (s : FourSlotSeat T) → IsSeat f s → (seat : FamilySeat T (FourSlotSight T)) (clock : ℕ)
      (times : List ℕ) (said : List Said)
      (found : List Found) → seat.inner.table_id ≡ s.seat.inner.table_id →
      seat.inner.me ≡ (Has (with_words (known_by s) clock times said found ∷ []), s.seat.inner.me.1) → IsSeat f (record s { seat = seat })
  still f s own seat clock times said found table me =
      seat_after f s own (record s { seat = seat }) (with_words (known_by s) clock times said found) s.seat.inner.me.1 table refl refl refl
      (ap (λ z. z.0) me) (ap (λ z. z.1) me) refl
      (rests s.spare s.processes (known_by s) s.stored s.seat.inner.me.1 clock times said found own.rest)
