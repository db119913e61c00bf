-- The seat holds the one slot alone, so after the write it holds what the parts make and nothing else.
use Rattle.std.proofs.Common.{[], ◌∷◌, ap, ◌∙◌}
use Rattle.cell_contract.proofs.ListLaws.{may_exchange, none_behind}
use Rattle.cell_four_slot.proofs.table.FourSlotTable.fill.Goals as goal

pub slot_mut-requires : goal.slot_mut-requires
slot_mut-requires g c = (c.requires.own, may_exchange _ _ c.requires.held)

pub returns-clause-filled : goal.returns-clause-filled
returns-clause-filled g c =
    let me = c.args.seat.now.inner.me.0 in
    ap (λ cs. (me, (c.args.slot, c.lay.new.place) ∷ cs)) (none_behind _ _ c.requires.held)
    ∙ ap (λ item. (me, (c.args.slot, item) ∷ [])) c.lay.ensures
