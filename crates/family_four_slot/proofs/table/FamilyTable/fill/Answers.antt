-- The slot comes first, and what lies behind it stays.
use Rattle.std.proofs.Common.{◌∷◌, ap, ◌∙◌, sym}
use Rattle.family_four_slot.proofs.table.FamilyTable.fill.Goals as goal

pub fill-requires-clause-held : goal.fill-requires-clause-held
fill-requires-clause-held g c =
    let t = c.requires.held in
    (t.0, t.1, t.2 ∙ ap (λ z. (z, t.0) ∷ t.1) (sym c.slot_place.ensures))

pub returns-clause-filled : goal.returns-clause-filled
returns-clause-filled g c x cs e =
    let at = c.slot_place.ensures in
    c.fill.ensures.filled x cs (e ∙ ap (λ z. (z, x) ∷ cs) (sym at)) ∙ ap (λ z. (c.args.seat.now.inner.me.0, (z, c.args.item.now) ∷ cs)) at
