-- The reader's first slot comes before those that the seat has.
use Rattle.std.proofs.Common.{arith, subst}
use mathlib.Core.Option.{none}
use Rattle.atomic_table.specs.Table.{step}
use Rattle.family_triple.specs.Plans.{plan_of}
use Rattle.family_triple.specs.Steps.{get_takes}
use Rattle.family_triple.proofs.Plans.{get_taken}
use Rattle.family_triple.proofs.Told.{get_takes_ok}
use Rattle.family_triple.proofs.table.FamilyTable.take_get.Goals as goal

pub load-requires : goal.load-requires
load-requires g c =
    let t = c.requires.bare in
    let s = c.args.self.now.sized in
    let place = c.requires.place in
    let key = c.args.self.now.rows.inner.shared.key in
    let o = key.first in
    let n = key.processes in
    let b = c.word_of.ensures in (
      c.requires.own,
      omega arith,
      get_takes_ok g.T.Lawful.fits g.T.Lawful.rises o n (plan_of g.T.Planned.plan key) _ _ _ c.args.cell _ t.0 t.1
          (omega arith) place t.2.process.has t.2.process.one t.2.notes t.2.process.held t.3
          (get_taken o n (g.T.Planned.plan o 1 n key.limit t.0.who) t.0.who t.0 c.args.cell t.2.process.has t.1 t.2.notes),
    )

pub returns-clause-took : goal.returns-clause-took
returns-clause-took g c =
    let b = c.word_of.ensures in
    subst (λ z. get_takes (step c.args.self.now.rows.inner.shared.table_id.slots z 0 0 none) c.args.seat.now.inner.me c.load.result
    c.load.new.seat.me) (omega arith) c.load.ensures.2
