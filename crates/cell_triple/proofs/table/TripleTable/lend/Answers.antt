-- The seat holds the one slot alone, so what the closure sees there is all that it holds.
use Rattle.std.proofs.Common.{◌∷◌, ap, ◌∙◌, refl}
use Rattle.cell_contract.proofs.ListLaws.{may_exchange, none_behind}
use Rattle.cell_triple.proofs.table.TripleTable.lend.Goals as goal

pub slot_mut-requires : goal.slot_mut-requires
slot_mut-requires g c = (c.requires.own, may_exchange _ _ c.requires.held)

pub look-requires : goal.look-requires
look-requires g c = c.requires.callable c.slot_mut.result.now (c.slot_mut.ensures.value
    ∙ ap (λ cs. (c.args.slot, c.slot_mut.result.now) ∷ cs) (none_behind _ _ c.requires.held)) (denote.MutBor.as_bor c.slot_mut.result) refl

pub returns-clause-seen : goal.returns-clause-seen
returns-clause-seen g c = (
  c.slot_mut.result.now,
  c.slot_mut.ensures.value ∙ ap (λ cs. (c.args.slot, c.slot_mut.result.now) ∷ cs) (none_behind _ _ c.requires.held),
  (denote.MutBor.as_bor c.slot_mut.result, c.look.ensures, refl),
)
