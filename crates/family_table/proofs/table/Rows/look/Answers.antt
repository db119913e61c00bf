-- The word of the process has the last tag that it said.
use Rattle.std.proofs.Common.{◌≡◌, ◌⊎◌, rules, ℕ, ◌<◌, ◌≤◌, List, [], ◌∷◌, ap, ◌∙◌, sym, subst, inl, inr, refl, arith}
use Rattle.atomic_table.specs.Table.{Allows, step}
use mathlib.Core.Option.{none}
use Rattle.family_table.specs.declared.notes.View.TheVariants.{Has}
use Rattle.family_table.specs.Ends.{AllSoFar, looks, shows_behind}
use Rattle.family_table.specs.Family.{FamilyRule}
use Rattle.family_table.proofs.Ends.{showing_ok}
use Rattle.family_table.proofs.Saying.{looks_ok}
use Rattle.family_table.proofs.table.Rows.look.Goals as goal

pub load-said-requires : goal.load-said-requires
load-said-requires g c =
    let key = c.args.self.now.inner.shared.key in
    let slots = c.args.self.now.inner.shared.table_id.slots in
    let m = g.M.Mechanism in
    let o = key.first in
    let n = key.processes in
    let one = c.requires.one in
    let P = m.plan o key.limit n in
    let seat = c.args.seat.now.inner in
    let word = c.said_word.result in
    let F = FamilyRule m.blank (m.layout n) (m.keeps o) P n in (
      c.requires.own,
      search rules,
      subst (λ (z : List g.row.T.Denot × ℕ × ℕ). Allows F slots seat.id seat.me word (λ w. w)
          (λ found u. looks g.L.Looking.from g.L.Looking.tag (step slots word 0 0 none) seat.me found u
          × shows_behind m.blank m.layout m.done m.plan z.0 z.1 z.2 u))
          (λ i. (sym c.requires.opening.0 i, sym c.requires.opening.1 i, sym c.requires.opening.2 i))
          (showing_ok m.blank m.layout m.keeps m.done m.ends o n P m.plan key.limit refl slots seat.id word seat.me (λ w. w)
          (looks g.L.Looking.from g.L.Looking.tag (step slots word 0 0 none) seat.me)
          (subst (λ z. Allows F slots seat.id (z, seat.me.1) word (λ w. w)
          (looks g.L.Looking.from g.L.Looking.tag (step slots word 0 0 none) (z, seat.me.1))) (sym one.1)
          (subst (λ (z : ℕ × ℕ). Allows F slots seat.id (Has (one.0 ∷ []), seat.me.1) word (λ w. w)
          (looks z.0 z.1 (step slots word 0 0 none) (Has (one.0 ∷ []), seat.me.1)))
          (λ i. (sym c.requires.looking.0 i, sym c.requires.looking.1 i))
          (looks_ok m.blank (m.layout n) (m.laid n) (m.keeps o) P (m.later o) n slots seat.id word c.args.from c.args.tag one.0 seat.me.1
          (search rules) c.requires.other (λ t. c.requires.plan one.0 t one.1))))),
    )
