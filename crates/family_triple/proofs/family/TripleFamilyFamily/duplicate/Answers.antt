-- Both receipts know what the one did.
use Rattle.std.proofs.Common.{refl, ap}
use Rattle.cell_contract.specs.Intervals.{dated}
use Rattle.cell_contract.specs.Sights.{receipt_or}
use Rattle.cell_contract.specs.declared.sight.Sight.TheVariants.{Spent}
use Rattle.family_table.specs.Family.{of_cell}
use Rattle.family_table.specs.Places.{place}
use Rattle.family_table.specs.Views.{receipt_in}
use Rattle.family_triple.proofs.Telling.{told_again, same_told}
use Rattle.family_triple.proofs.family.TripleFamilyFamily.duplicate.Goals as goal

pub returns-clause-same : goal.returns-clause-same
returns-clause-same g c = let own = c.duplicate-again.ensures.own in
    same_told c.args.told.now c.duplicate-again.new.receipt own.0 own.1 c.duplicate-again.ensures.same.0

pub returns-clause-told : goal.returns-clause-told
returns-clause-told g c = let me = c.duplicate-again.ensures.same.1 in (
  told_again c.args.self.now c.args.told.now c.requires.own c.duplicate-again.result c.duplicate-again.ensures.own.2 me,
  refl,
  ap (λ z. (receipt_in z.0).clock) me,
)

pub returns-clause-tells : goal.returns-clause-tells
returns-clause-tells g c =
    let t = c.args.told.now in
    let me = c.duplicate-again.ensures.same.1 in (
      (λ j. ap (λ z. (receipt_or (dated t.spare) (of_cell Spent (place t.processes t.from j) (receipt_in z.0).parts)).item) me),
      (λ j. ap (λ z. (receipt_or (dated t.spare) (of_cell Spent (place t.processes t.from j) (receipt_in z.0).parts)).writes) me),
    )
