-- The tag goes into the word of its process.
use Rattle.std.proofs.Common.{rules, [], ◌∷◌, ap, ◌∙◌, sym, subst}
use Rattle.atomic_table.specs.Table.{Allows, step}
use mathlib.Core.Option.{none}
use Rattle.family_table.specs.Ends.{says}
use Rattle.family_table.specs.Family.{FamilyRule}
use Rattle.family_table.proofs.Saying.{says_ok}
use Rattle.family_table.proofs.table.Rows.say.Goals as goal

pub store-requires : goal.store-requires
store-requires g c =
    let key = c.args.self.now.inner.shared.key in
    let slots = c.args.self.now.inner.shared.table_id.slots in
    let m = g.M.Mechanism in
    let one = c.requires.one in
    let P = m.plan key.first key.limit key.processes in
    let seat = c.args.seat.now.inner in
    let word = c.said_word.result in (
      c.requires.own,
      search rules,
      subst (λ z. Allows (FamilyRule m.blank (m.layout key.processes) (m.keeps key.first) P key.processes) slots seat.id (z, seat.me.1)
          word (λ _. c.args.tag) (λ _. says (step slots word c.args.tag 0 none) (z, seat.me.1) c.args.tag)) (sym one.1)
          (says_ok m.blank (m.layout key.processes) (m.laid key.processes) (m.keeps key.first) P (m.later key.first) key.processes slots
          seat.id word one.0 seat.me.1 c.args.tag (search rules) (search rules) (c.requires.plan one.0 one.1)),
    )
