-- The store of the pair ends a write.
use Rattle.std.proofs.Common.{le_refl, arith, subst}
use mathlib.Core.Option.{none}
use Rattle.atomic_table.specs.Table.{step}
use Rattle.family_four_slot.specs.Steps.{finishes}
use Rattle.family_four_slot.proofs.Told.{finishes_ok}
use Rattle.family_four_slot.proofs.Showing.{may_show, shows}
use Rattle.family_four_slot.proofs.table.FamilyTable.finish.Goals as goal

pub store-requires : goal.store-requires
store-requires g c =
    let t = c.requires.stored in
    let s = c.args.self.now.sized in
    let place = c.requires.place in
    let b = c.base.ensures in (
      c.requires.own,
      omega arith,
      may_show g.T.Lawful.fits g.T.Lawful.rises g.T.Planned.plan c.args.self.now.rows.inner.shared.key _ _ _ c.requires.opening.0
          c.requires.opening.1 c.requires.opening.2 c.args.self.now.rows.inner.shared.table_id.slots c.args.seat.now.inner.id c.base.result
          c.args.seat.now.inner.me (λ _. c.args.pair)
          (λ _. finishes (step c.args.self.now.rows.inner.shared.table_id.slots c.base.result c.args.pair 0 none)
          c.args.seat.now.inner.me c.args.pair)
          (finishes_ok g.T.Lawful.fits g.T.Lawful.rises _ _ _ 1 (le_refl 1) _ _ _ c.args.cell _ _ t.0 t.1
          (omega arith) place t.2.process.has t.2.process.one t.2.notes t.2.process.held t.3 t.4 t.5),
    )

pub returns-clause-shown : goal.returns-clause-shown
returns-clause-shown g c =
    shows g.T.Lawful.fits g.T.Lawful.rises g.T.Planned.plan c.args.self.now.rows.inner.shared.key _ _ _ c.requires.opening.0
    c.requires.opening.1 c.requires.opening.2 c.store.new.seat.me c.store.ensures.2.1

pub returns-clause-finished : goal.returns-clause-finished
returns-clause-finished g c =
    subst (λ z. finishes (step c.args.self.now.rows.inner.shared.table_id.slots z c.args.pair 0 none) c.args.seat.now.inner.me
    c.args.pair c.store.new.seat.me) c.base.ensures c.store.ensures.2.0
