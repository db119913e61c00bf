-- The seat holds the one slot alone, so what lies there is all that it holds.
use Rattle.std.proofs.Common.{◌∷◌, ap, ◌∙◌, refl}
use Rattle.cell_contract.proofs.ListLaws.{may_exchange, none_behind}
use Rattle.cell_triple.proofs.table.TripleSeat.place.Goals as goal

pub slot_mut-requires : goal.slot_mut-requires
slot_mut-requires g c = (c.requires.own, may_exchange _ _ c.requires.held)

pub returns : goal.returns
returns g c = (
  (refl, λ w. refl),
  record {
    lent = tt;
    value = c.slot_mut.ensures.value ∙ ap (λ cs. (c.args.slot, c.slot_mut.result.now) ∷ cs) (none_behind _ _ c.requires.held);
  },
)
