-- The load of the pair's bit gives the slot of the read before back, and takes the one that it names.
use Rattle.std.proofs.Common.{arith, ◌≡◌, ◌+◌, ◌*◌, subst, sym, ap, ◌∙◌}
use mathlib.Core.Option.{none}
use Rattle.atomic_table.specs.Table.{step}
use Rattle.cell_four_slot.proofs.Slots.{bit_low}
use Rattle.family_four_slot.specs.Steps.{takes_on}
use Rattle.family_four_slot.proofs.Places.{bit_word}
use Rattle.family_four_slot.proofs.Merged.{takes_on_ok}
use Rattle.family_four_slot.proofs.Showing.{may_show, shows}
use Rattle.family_four_slot.proofs.table.FamilyTable.take_on.Goals as goal

pub load-requires : goal.load-requires
load-requires g c =
    let t = c.requires.asked in
    let s = c.args.self.now.sized in
    let place = c.requires.place in
    let b = c.base.ensures in
    let low = bit_low t.1.slot.pair in
    let word : c.base.result + (2 + c.args.pair) ≡ 16 * c.args.cell + 8 + (2 + c.args.pair) = omega arith in
    let pair = t.7 in (
      c.requires.own,
      omega arith,
      may_show g.T.Lawful.fits g.T.Lawful.rises g.T.Planned.plan c.args.self.now.rows.inner.shared.key _ _ _ c.requires.opening.0
          c.requires.opening.1 c.requires.opening.2 c.args.self.now.rows.inner.shared.table_id.slots c.args.seat.now.inner.id
          (c.base.result + (2 + c.args.pair)) c.args.seat.now.inner.me (λ m. m)
          (takes_on g.T.Lawful.fits g.T.Lawful.rises
          (step c.args.self.now.rows.inner.shared.table_id.slots (c.base.result + (2 + c.args.pair)) 0 0 none) c.args.seat.now.inner.me)
          (takes_on_ok g.T.Lawful.fits g.T.Lawful.rises _ _ _ g.T.Lawful.reflexive g.T.Lawful.transitive _ _ _ c.args.cell
          (2 + c.args.pair) _ t.0 t.1 t.2 t.3 (word ∙ bit_word c.args.cell c.args.pair)
          place t.4.process.has t.4.process.one t.4.notes t.5 t.4.process.held t.6 (ap (λ z. 2 + z) pair) (omega arith)
          (sym pair ∙ t.8) t.9),
    )

pub returns-clause-taken : goal.returns-clause-taken
returns-clause-taken g c =
    let b = c.base.ensures in
    subst (λ z. takes_on g.T.Lawful.fits g.T.Lawful.rises
    (step c.args.self.now.rows.inner.shared.table_id.slots z 0 0 none) c.args.seat.now.inner.me
    c.load.result c.load.new.seat.me) (omega arith) c.load.ensures.2.0

pub returns-clause-shown : goal.returns-clause-shown
returns-clause-shown g c =
    shows g.T.Lawful.fits g.T.Lawful.rises g.T.Planned.plan c.args.self.now.rows.inner.shared.key _ _ _ c.requires.opening.0
    c.requires.opening.1 c.requires.opening.2 c.load.new.seat.me c.load.ensures.2.1
