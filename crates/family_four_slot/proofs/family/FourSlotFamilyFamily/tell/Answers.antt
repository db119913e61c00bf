-- The receipt is that of the process.
use Rattle.std.proofs.Common.{◌≡◌, [], refl, ap, ◌∙◌}
use Rattle.cell_four_slot.specs.Steps.{FourSlotSight, receipt_for}
use Rattle.family_table.specs.declared.notes.Receipt.{Receipt}
use Rattle.family_table.specs.declared.notes.View.TheVariants.{Told}
use Rattle.family_table.specs.Family.{receipt_of}
use Rattle.family_table.specs.Seats.{told_by}
use Rattle.family_table.specs.Views.{receipt_in}
use Rattle.family_table.specs.Seated.{known_by}
use Rattle.family_four_slot.proofs.Telling.{has_told, tells_all}
use Rattle.family_four_slot.proofs.family.FourSlotFamilyFamily.tell.Goals as goal

pub returns-clause-told : goal.returns-clause-told
returns-clause-told g c =
    let s = c.args.seat.now in
    let own = c.requires.own in
    let r : Receipt (FourSlotSight g.row.T.Denot) = receipt_of receipt_for (known_by s) in
    let me : c.tell-told.result.inner.me ≡ (Told r, []) = c.tell-told.ensures.parted.1 ∙ ap (λ z. (told_by receipt_for z, [])) own.one in (
      has_told c.args.self.now s own (record { seat = c.tell-told.result; processes = s.processes; from = s.who; spare = s.spare })
          (c.tell-told.ensures.own.1 ∙ own.table) refl refl me,
      refl,
      ap (λ z. (receipt_in z.0).clock) me,
    )

pub returns-clause-tells : goal.returns-clause-tells
returns-clause-tells g c =
    let s = c.args.seat.now in
    let own = c.requires.own in
    let r : Receipt (FourSlotSight g.row.T.Denot) = receipt_of receipt_for (known_by s) in
    let me : c.tell-told.result.inner.me ≡ (Told r, []) = c.tell-told.ensures.parted.1 ∙ ap (λ z. (told_by receipt_for z, [])) own.one in
    tells_all c.args.self.now s own
    (record { seat = c.tell-told.result; processes = s.processes; from = s.who; spare = s.spare }) refl refl me
