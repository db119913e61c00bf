-- The slot comes first, and what lies behind it stays.
use Rattle.std.proofs.Common.{◌∷◌, ap, ◌∙◌, sym}
use Rattle.atomic_table.specs.Table.{rest}
use Rattle.family_table.proofs.table.Rows.fill.Goals as goal

pub slot_mut-requires : goal.slot_mut-requires
slot_mut-requires g c = let t = c.requires.held in (c.requires.own, (t.0, t.2 ∙ ap (λ cs. (c.args.slot, t.0) ∷ rest cs) (sym t.2)))

pub returns-clause-filled : goal.returns-clause-filled
returns-clause-filled g c x cs e = let me = c.args.seat.now.inner.me.0 in ap (λ zs. (me, (c.args.slot, c.args.item.now) ∷ rest zs)) e
