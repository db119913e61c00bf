-- A load that keeps the view shows the calls so far.
use Rattle.std.proofs.Common.{ℕ, List, sym, subst}
use Rattle.atomic_table.specs.Table.{Allows, step}
use mathlib.Core.Option.{none}
use Rattle.family_table.specs.Family.{FamilyRule}
use Rattle.family_table.specs.Ends.{AllDone, shows}
use Rattle.family_table.proofs.Ends.{shows_ok}
use Rattle.family_table.proofs.table.Rows.load_calls.Goals as goal

pub load-requires : goal.load-requires
load-requires g c =
    let slots = c.args.self.now.inner.shared.table_id.slots in
    let o = c.args.self.now.inner.shared.key.first in
    let n = c.args.self.now.inner.shared.key.processes in
    let seat = c.args.seat.now.inner in
    let st = step slots 0 0 0 none in
    let m = g.M.Mechanism in
    let P = m.plan o c.args.self.now.inner.shared.key.limit n in (
      c.requires.own,
      c.args.self.now.there,
      subst (λ (z : List g.row.T.Denot × ℕ). Allows (FamilyRule m.blank (m.layout n) (m.keeps o) P n) slots seat.id seat.me 0 (λ w. w)
          (shows m.blank m.layout m.done z.0 z.1 st seat.me)) (λ i. (sym c.requires.opening.0 i, sym c.requires.opening.1 i))
          (shows_ok m.blank m.layout m.keeps m.done m.ends o n P slots seat.id 0 seat.me st),
    )

pub returns-clause-shown : goal.returns-clause-shown
returns-clause-shown g c = λ ps is.
    let m = g.M.Mechanism in
    subst (λ z. AllDone m.blank (m.layout z) (m.done c.args.self.now.inner.shared.key.first) z ps) c.requires.opening.1
    (c.load.ensures.2.1 c.args.self.now.inner.shared.key.first ps c.requires.opening.0 is)
