-- The seat holds the one slot alone, so what it reads there is all that it holds.
use Rattle.std.proofs.Common.{◌∷◌, ap, ◌∙◌}
use Rattle.cell_contract.proofs.ListLaws.{may_exchange, none_behind}
use Rattle.cell_four_slot.proofs.table.FourSlotTable.copy.Goals as goal

pub slot_mut-requires : goal.slot_mut-requires
slot_mut-requires g c = (c.requires.own, may_exchange _ _ c.requires.held)

pub returns-clause-copied : goal.returns-clause-copied
returns-clause-copied g c =
    c.slot_mut.ensures.value ∙ ap (λ cs. (c.args.slot, c.slot_mut.result.now) ∷ cs) (none_behind _ _ c.requires.held)
