-- A receipt is told once more.
use Rattle.std.proofs.Common.{subst, sym, ap, ◌∙◌}
use Rattle.atomic_table.specs.Table.{Splits}
use Rattle.family_table.proofs.Receipts.{family_repeats}
use Rattle.family_table.specs.Family.{FamilyRule}
use Rattle.family_table.proofs.table.Rows.duplicate.Goals as goal

pub split_seat-again-requires : goal.split_seat-again-requires
split_seat-again-requires g c =
    let t = c.requires.receipt in
    let n = c.args.self.now.inner.shared.key.processes in
    let o = c.args.self.now.inner.shared.key.first in
    let m = g.M.Mechanism in
    let R = m.keeps o in
    let P = m.plan o c.args.self.now.inner.shared.key.limit n in (
      c.requires.own,
      c.args.self.now.there,
      subst (λ z. Splits (FamilyRule m.blank (m.layout n) R P n) c.args.receipt.now.inner.id z z z) (sym (ap (λ m. m.0) t.1))
          (family_repeats m.blank m.receipt m.hears m.plain m.deaf m.mute (m.layout n) R P m.idle n c.args.receipt.now.inner.id t.0),
    )

pub returns-clause-same : goal.returns-clause-same
returns-clause-same g c =
    let t = c.requires.receipt in
    let parted = c.split_seat-again.ensures in
    (parted.2, parted.4 ∙ ap (λ zs. (c.args.receipt.now.inner.me.0, zs)) (sym (ap (λ m. m.1) t.1)))
