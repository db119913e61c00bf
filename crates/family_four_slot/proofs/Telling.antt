-- A receipt tells of each cell of its process's row what the process wrote last, and of other cells nothing.
use Rattle.std.proofs.Common.{◌≡◌, ◌≢◌, ◌<◌, ℕ, [], refl, sym, ap, ◌∙◌, subst}
use Rattle.atomic_table.specs.Table.{Me}
use Rattle.cell_contract.specs.Intervals.{dated, known_as}
use Rattle.cell_contract.specs.Running.{snap}
use Rattle.cell_contract.specs.Sights.{receipt_or}
use Rattle.cell_contract.specs.declared.sight.Sight.TheVariants.{Spent, Told as Tells}
use Rattle.cell_four_slot.specs.Steps.{FourSlotSight, receipt_for, hears_of}
use Rattle.cell_contract.specs.Accesses.{WriteAccesses}
use Rattle.family_table.specs.declared.notes.View.{View}
use Rattle.family_table.specs.declared.notes.View.TheVariants.{Told}
use Rattle.family_table.specs.Family.{of_cell, receipt_of}
use Rattle.family_table.specs.Places.{place, writer_of}
use Rattle.family_table.specs.Views.{receipt_in}
use Rattle.family_four_slot.specs.declared.family.FourSlotFamily.{FourSlotFamily}
use Rattle.family_four_slot.specs.Seated.{FourSlotSeat}
use Rattle.family_four_slot.specs.Seated.{FourSlotReceipt}
use Rattle.family_table.specs.declared.table.FamilySeat.{FamilySeat}
use Rattle.family_table.specs.Seated.{known_by, told_in, number_of}
use Rattle.family_four_slot.specs.Seated.{carried_by, processes_of, writes_of, IsSeat, IsReceipt}
use Rattle.family_table.proofs.Receipts.{receipt_cell}
use Rattle.family_four_slot.proofs.Calls.{sees_writes}
use Rattle.family_four_slot.specs.Cells.{deaf, mute}

module _ {T : Type 0} (f : FourSlotFamily T) (s : FourSlotSeat T) (own : IsSeat f s) where
  part : (t : FourSlotReceipt T) → t.seat.inner.me ≡ (Told (receipt_of receipt_for (known_by s)), []) → (k : ℕ) →
      of_cell Spent k (told_in t).parts ≡ receipt_for (of_cell Spent k (known_by s).parts)
  part t me k = ap (λ z. of_cell Spent k (receipt_in z.0).parts) me
      ∙ receipt_cell Spent receipt_for hears_of refl deaf mute k (known_by s).parts

  pub has_told : (t : FourSlotReceipt T) → t.seat.inner.table_id ≡ f.table.rows.inner.shared.table_id → t.processes ≡ s.processes →
      t.from ≡ s.who → t.seat.inner.me ≡ (Told (receipt_of receipt_for (known_by s)), []) → IsReceipt f t
  has_told t table many who me = record {
    table = table;
    processes = many ∙ own.processes;
    inside = subst (λ (z : ℕ × ℕ). z.0 < z.1) (λ i. ((own.who ∙ sym who) i, sym many i)) own.rest.inside;
    one = me ∙ ap (λ z. (Told z, [])) (sym (ap (λ z. receipt_in z.0) me));
    row = λ j lj ne.
        let k : ℕ = place t.processes t.from j in
        let row = own.rest.row j (subst (λ z. j < z) many lj) (λ e. ne (e ∙ (own.who ∙ sym who))) in
        let same : k ≡ place s.processes (known_by s).who j = λ i. place (many i) ((who ∙ sym own.who) i) j in
        let is = part t me k ∙ ap receipt_for (ap (λ z. of_cell Spent z (known_by s).parts) same ∙ row.is) in
        is ∙ sym (ap (λ z. Tells (snap (receipt_or (dated t.spare) z))) is);
    elsewhere = λ k ne. part t me k ∙ own.rest.quiet k (λ e. ne (ap (λ z. writer_of z k) many ∙ (e ∙ (own.who ∙ sym who))));
  }

  -- it carries all that the process wrote to each other one
  pub tells_all : (t : FourSlotReceipt T) → t.processes ≡ s.processes → t.from ≡ s.who →
      t.seat.inner.me ≡ (Told (receipt_of receipt_for (known_by s)), []) → (j : ℕ) → j < processes_of f → j ≢ number_of s →
      carried_by t j ≡ known_as (writes_of s j).items (writes_of s j).times
  tells_all t many who me j lj ne =
      let away : j ≢ (known_by s).who = λ e. ne (e ∙ own.who) in
      let row = own.rest.row j (subst (λ z. j < z) (sym own.processes) lj) away in
      let k : ℕ = place t.processes t.from j in
      let same : k ≡ place s.processes (known_by s).who j = λ i. place (many i) ((who ∙ sym own.who) i) j in
      let is = part t me k ∙ ap receipt_for (ap (λ z. of_cell Spent z (known_by s).parts) same ∙ row.is) in
      ap (λ z. (receipt_or (dated t.spare) z).writes) is ∙ sym (ap (λ (w : WriteAccesses T). known_as w.items w.times)
      (sees_writes s.spare s.processes (known_by s) (known_by s).who j row.notes away refl row.is))

-- a receipt with another token that knows the same
pub told_again : {T : Type 0} (f : FourSlotFamily T) (t : FourSlotReceipt T) → IsReceipt f t → (inner : FamilySeat T (FourSlotSight T)) →
    inner.inner.table_id ≡ t.seat.inner.table_id → inner.inner.me ≡ t.seat.inner.me → IsReceipt f (record t { seat = inner })
told_again {T} f t is inner table me =
    let rest = subst (λ (m : Me T (View (FourSlotSight T))). (m ≡ (Told (receipt_in m.0), []))
    × ((j : ℕ) → j < t.processes → j ≢ t.from → of_cell Spent (place t.processes t.from j) (receipt_in m.0).parts
    ≡ Tells (snap (receipt_or (dated t.spare) (of_cell Spent (place t.processes t.from j) (receipt_in m.0).parts))))
    × ((k : ℕ) → writer_of t.processes k ≢ t.from → of_cell Spent k (receipt_in m.0).parts ≡ Spent)) (sym me)
    (is.one, is.row, is.elsewhere) in
    record { table = table ∙ is.table; processes = is.processes; inside = is.inside; one = rest.0; row = rest.1; elsewhere = rest.2 }

pub same_told : {T : Type 0} (t : FourSlotReceipt T) (inner : FamilySeat T (FourSlotSight T)) →
    inner.inner.table_id ≡ t.seat.inner.table_id →
    inner.inner.id ≡ t.seat.inner.id → inner.inner.me ≡ t.seat.inner.me → record t { seat = inner } ≡ t
same_told t inner table id me =
    λ i. record t { seat = record inner { inner = record inner.inner { table_id = table i; id = id i; me = me i } } }
