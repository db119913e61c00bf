-- The slot in the middle has the record written last.
use Rattle.std.proofs.Common.{arith, subst}
use mathlib.Core.Option.{none}
use Rattle.atomic_table.specs.Table.{step}
use Rattle.family_triple.specs.Plans.{plan_of}
use Rattle.family_triple.specs.Steps.{fetches}
use Rattle.family_triple.proofs.Showing.{may_show, shows}
use Rattle.family_triple.proofs.Told.{fetches_ok}
use Rattle.family_triple.proofs.table.FamilyTable.fetch.Goals as goal

pub swap-requires : goal.swap-requires
swap-requires g c =
    let t = c.requires.marked in
    let s = c.args.self.now.sized in
    let place = c.requires.place in
    let key = c.args.self.now.rows.inner.shared.key in
    let slots = c.args.self.now.rows.inner.shared.table_id.slots in
    let b = c.word_of.ensures in (
      c.requires.own,
      omega arith,
      may_show g.T.Lawful.fits g.T.Lawful.rises g.T.Planned.plan key _ _ _ c.requires.opening.0 c.requires.opening.1
          c.requires.opening.2 slots c.args.seat.now.inner.id c.word_of.result c.args.seat.now.inner.me (λ _. c.args.new)
          (fetches g.T.Lawful.fits g.T.Lawful.rises (step slots c.word_of.result c.args.new 0 none) c.args.seat.now.inner.me)
          (fetches_ok g.T.Lawful.fits g.T.Lawful.rises key.first key.processes (plan_of g.T.Planned.plan key) g.T.Lawful.reflexive
          g.T.Lawful.transitive _ _ _ c.args.cell _ _ t.0 t.1 t.2
          (omega arith) place t.3.process.has t.3.process.one t.3.notes t.4 t.3.process.held t.5 t.6 t.7 t.8),
    )

pub returns-clause-swapped : goal.returns-clause-swapped
returns-clause-swapped g c =
    let b = c.word_of.ensures in
    subst (λ z. fetches g.T.Lawful.fits g.T.Lawful.rises
    (step c.args.self.now.rows.inner.shared.table_id.slots z c.args.new 0 none) c.args.seat.now.inner.me
    c.swap.result c.swap.new.seat.me) (omega arith) c.swap.ensures.2.0

pub returns-clause-shown : goal.returns-clause-shown
returns-clause-shown g c =
    shows g.T.Lawful.fits g.T.Lawful.rises g.T.Planned.plan c.args.self.now.rows.inner.shared.key _ _ _ c.requires.opening.0
    c.requires.opening.1 c.requires.opening.2 c.swap.new.seat.me c.swap.ensures.2.1
