-- The load decides the read where it finds no mark.
use Rattle.std.proofs.Common.{arith, subst}
use mathlib.Core.Option.{none}
use Rattle.atomic_table.specs.Table.{step}
use Rattle.family_triple.specs.Plans.{plan_of}
use Rattle.family_triple.specs.Steps.{looks}
use Rattle.family_triple.proofs.Plans.{has_asked}
use Rattle.family_triple.proofs.Showing.{may_show, shows}
use Rattle.family_triple.proofs.Told.{looks_ok}
use Rattle.family_triple.proofs.table.FamilyTable.look.Goals as goal

pub load-requires : goal.load-requires
load-requires g c =
    let t = c.requires.idle in
    let s = c.args.self.now.sized in
    let place = c.requires.place in
    let key = c.args.self.now.rows.inner.shared.key in
    let slots = c.args.self.now.rows.inner.shared.table_id.slots in
    let o = key.first in
    let n = key.processes in
    let b = c.word_of.ensures in (
      c.requires.own,
      omega arith,
      may_show g.T.Lawful.fits g.T.Lawful.rises g.T.Planned.plan key _ _ _ c.requires.opening.0 c.requires.opening.1
          c.requires.opening.2 slots c.args.seat.now.inner.id c.word_of.result c.args.seat.now.inner.me (λ m. m)
          (looks g.T.Lawful.fits g.T.Lawful.rises (step slots c.word_of.result 0 0 none) c.args.seat.now.inner.me)
          (looks_ok g.T.Lawful.fits g.T.Lawful.rises o n (plan_of g.T.Planned.plan key) g.T.Lawful.reflexive g.T.Lawful.transitive
          _ _ _ c.args.cell _ t.0 t.1 (omega arith) place t.2.process.has t.2.process.one t.2.notes t.2.process.held t.3
          (has_asked o n (g.T.Planned.plan o 1 n key.limit t.0.who) t.0.who t.0 c.args.cell t.2.process.has t.1 t.2.notes) t.4),
    )

pub returns-clause-looked : goal.returns-clause-looked
returns-clause-looked g c =
    let b = c.word_of.ensures in
    subst (λ z. looks g.T.Lawful.fits g.T.Lawful.rises
    (step c.args.self.now.rows.inner.shared.table_id.slots z 0 0 none) c.args.seat.now.inner.me
    c.load.result c.load.new.seat.me) (omega arith) c.load.ensures.2.0

pub returns-clause-shown : goal.returns-clause-shown
returns-clause-shown g c =
    shows g.T.Lawful.fits g.T.Lawful.rises g.T.Planned.plan c.args.self.now.rows.inner.shared.key _ _ _ c.requires.opening.0
    c.requires.opening.1 c.requires.opening.2 c.load.new.seat.me c.load.ensures.2.1
