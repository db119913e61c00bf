-- The store of the index gives the slot back, and ends the write where `latest` has the pair.
use Rattle.std.proofs.Common.{arith, ◌≡◌, ◌+◌, ◌*◌, subst, ap, ◌∙◌}
use mathlib.Core.Option.{none}
use Rattle.atomic_table.specs.Table.{step}
use Rattle.cell_four_slot.proofs.Slots.{bit_low}
use Rattle.family_four_slot.specs.Steps.{stores_on}
use Rattle.family_four_slot.proofs.Places.{bit_word}
use Rattle.family_four_slot.proofs.Merged.{stores_on_ok}
use Rattle.family_four_slot.proofs.Showing.{may_show, shows}
use Rattle.family_four_slot.proofs.table.FamilyTable.store.Goals as goal

pub store-requires : goal.store-requires
store-requires g c =
    let t = c.requires.filled in
    let s = c.args.self.now.sized in
    let place = c.requires.place in
    let b = c.base.ensures in
    let low = bit_low t.1.slot.pair in
    let word : c.base.result + (2 + c.args.pair) ≡ 16 * c.args.cell + 8 + (2 + c.args.pair) = omega arith in
    let pair = t.6 in (
      c.requires.own,
      omega arith,
      may_show g.T.Lawful.fits g.T.Lawful.rises g.T.Planned.plan c.args.self.now.rows.inner.shared.key _ _ _ c.requires.opening.0
          c.requires.opening.1 c.requires.opening.2 c.args.self.now.rows.inner.shared.table_id.slots c.args.seat.now.inner.id
          (c.base.result + (2 + c.args.pair)) c.args.seat.now.inner.me (λ _. c.args.index)
          (λ _. stores_on (step c.args.self.now.rows.inner.shared.table_id.slots (c.base.result + (2 + c.args.pair)) c.args.index 0 none)
          c.args.seat.now.inner.me c.args.index)
          (stores_on_ok g.T.Lawful.fits g.T.Lawful.rises _ _ _ _ _ _ c.args.cell (2 + c.args.pair) _ _ t.0 t.1 t.2
          (word ∙ bit_word c.args.cell c.args.pair) place t.3.process.has t.3.process.one t.3.notes t.4 t.3.process.held t.5
          (ap (λ z. 2 + z) pair) (omega arith) t.7 t.8),
    )

pub returns-clause-stored : goal.returns-clause-stored
returns-clause-stored g c =
    let b = c.base.ensures in
    subst (λ z. stores_on (step c.args.self.now.rows.inner.shared.table_id.slots z c.args.index 0 none) c.args.seat.now.inner.me
    c.args.index c.store.new.seat.me)
    (omega arith) c.store.ensures.2.0

pub returns-clause-shown : goal.returns-clause-shown
returns-clause-shown g c =
    shows g.T.Lawful.fits g.T.Lawful.rises g.T.Planned.plan c.args.self.now.rows.inner.shared.key _ _ _ c.requires.opening.0
    c.requires.opening.1 c.requires.opening.2 c.store.new.seat.me c.store.ensures.2.1
