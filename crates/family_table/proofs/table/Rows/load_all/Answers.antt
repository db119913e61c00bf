-- A load that keeps the view shows all processes.
use Rattle.std.proofs.Common.{ℕ, List, refl, sym, subst}
use Rattle.atomic_table.specs.Table.{Allows, step}
use mathlib.Core.Option.{none}
use Rattle.family_table.specs.Family.{FamilyRule}
use Rattle.family_table.specs.Ends.{AllSoFar, shows_all}
use Rattle.family_table.proofs.Ends.{shows_all_ok}
use Rattle.family_table.proofs.table.Rows.load_all.Goals as goal

pub load-requires : goal.load-requires
load-requires g c =
    let slots = c.args.self.now.inner.shared.table_id.slots in
    let o = c.args.self.now.inner.shared.key.first in
    let n = c.args.self.now.inner.shared.key.processes in
    let limit = c.args.self.now.inner.shared.key.limit in
    let seat = c.args.seat.now.inner in
    let st = step slots 0 0 0 none in
    let m = g.M.Mechanism in (
      c.requires.own,
      c.args.self.now.there,
      subst (λ (z : List g.row.T.Denot × ℕ × ℕ).
          Allows (FamilyRule m.blank (m.layout n) (m.keeps o) (m.plan o limit n) n) slots seat.id seat.me 0 (λ w. w)
          (shows_all m.blank m.layout m.done m.plan z.0 z.1 z.2 st seat.me))
          (λ i. (sym c.requires.opening.0 i, sym c.requires.opening.1 i, sym c.requires.opening.2 i))
          (shows_all_ok m.blank m.layout m.keeps m.done m.ends o n (m.plan o limit n) m.plan limit refl slots seat.id 0 seat.me st),
    )

pub returns-clause-shown : goal.returns-clause-shown
returns-clause-shown g c = λ ps is.
    let m = g.M.Mechanism in
    let o = c.args.self.now.inner.shared.key.first in
    subst (λ (z : ℕ × ℕ). AllSoFar m.blank (m.layout z.0) (m.done o) (m.plan o z.1 z.0) z.0 ps)
    (λ i. (c.requires.opening.1 i, c.requires.opening.2 i)) (c.load.ensures.2.1 o ps c.requires.opening.0 is)
